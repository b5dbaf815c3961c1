-- `cmd_show::show_sheet` meets its contract.
-- Assumes nothing.
use mathlib.Core.Path.{sym}
use lib.Seq.{length-take-le}
use Rattle.std.proofs.lemmas.Result.{err_from_is_err_and}
use Rattle.sheets.proofs.Setting.{setting_few, setting_fits, setting_room, setting-count, setting_are_bits}
use Rattle.cmd_picture.proofs.Switches.{bits_are}
use Rattle.cmd_show.proofs.Showing.{show_refused, show_done}
use Rattle.cmd_show.proofs.show_sheet.Goals as goal

pub returns-in_err-size : goal.returns-in_err-size
returns-in_err-size c = let p = err_from_is_err_and c.from_residual.result c.from_residual.ensures.1 in
    rw (p.1, p.2) (show_refused _ _ _ _ c.in_err-size.ensures)

pub slice_bounds-bits-end : goal.slice_bounds-bits-end
slice_bounds-bits-end c = setting_room _ _ c.in_ok-size.ensures

pub slice_bounds-setting-end : goal.slice_bounds-setting-end
slice_bounds-setting-end c = sym (length-take-le _ _ (setting_room _ _ c.in_ok-size.ensures))

pub invariant_of-setting : goal.invariant_of-setting
invariant_of-setting c =
    let R = c.in_ok-size.ensures in
    record { few = setting_few _ _ R; short = setting_fits _ _ R; long = setting-count _ _ R; binary = bits_are _ (setting_are_bits _ _ R) }

pub returns : goal.returns
returns c = show_done _ _ _ c.in_ok-size.ensures c.put_setting.ensures
