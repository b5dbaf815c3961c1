-- `sheet_reader::read_setting` meets its contract.
-- Assumes nothing.
use borrow.Author.Rules.{rules}
use Rattle.std.proofs.lemmas.Result.{err_from_is_err_and}
use Rattle.sheets.proofs.Setting.{setting_refused, read_few, setting_read}
use Rattle.sheet_reader.proofs.read_setting.Goals as goal

pub returns-in_err-places : goal.returns-in_err-places
returns-in_err-places c = let p = err_from_is_err_and c.from_residual.result c.from_residual.ensures.1 in
    rw (p.1, p.2) (setting_refused _ _ (search rules) _ c.in_err-places.ensures)

pub switches-switches-requires : goal.switches-switches-requires
switches-switches-requires c = read_few _ _ (search rules) c.in_ok-places.ensures

pub returns : goal.returns
returns c = setting_read _ _ (search rules) c.in_ok-places.ensures c.switches-switches.ensures.0
