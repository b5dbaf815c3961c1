-- `cmd_move::unmix` meets its contract.
-- Assumes nothing.
use mathlib.Core.Path.{sym}
use lib.Seq.{length-take-le}
use Rattle.std.proofs.lemmas.Result.{err_from_is_err_and}
use Rattle.network.specs.Wiring.{paper}
use Rattle.network.specs.Blocks.{moved_back}
use Rattle.sheets.proofs.Setting.{setting_room}
use Rattle.apply.specs.Calls.{inverse_call}
use Rattle.cmd_move.specs.Calls.{unmix_call}
use Rattle.cmd_move.proofs.Moving.{move_refused, move_settles, unlogged}
use Rattle.cmd_move.proofs.unmix.Goals as goal

pub returns-in_err-setting : goal.returns-in_err-setting
unfolding unmix_call
returns-in_err-setting c = let p = err_from_is_err_and c.from_residual.result c.from_residual.ensures.1 in
    rw (p.1, p.2) (move_refused (moved_back paper) _ _ _ _ _ c.in_err-setting.ensures)

pub slice_bounds-bits-end : goal.slice_bounds-bits-end
slice_bounds-bits-end c = setting_room _ _ c.in_ok-setting.ensures

pub slice_bounds-apply_inverse-end : goal.slice_bounds-apply_inverse-end
slice_bounds-apply_inverse-end c = sym (length-take-le _ _ (setting_room _ _ c.in_ok-setting.ensures))

pub returns : goal.returns
unfolding unmix_call inverse_call
returns c = let a = c.args in
    move_settles (moved_back paper) a.sheet.now a.width a.blocks.now _ c.in_ok-setting.ensures (unlogged c.apply_inverse.ensures)
