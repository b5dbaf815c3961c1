-- `cmd_settings::put_lines` meets its contract.
-- Assumes nothing.
use native.Mathlib.Omega.{arith}
use mathlib.Core.List.{◌++◌}
use Rattle.cmd_text.specs.Text.{decimal, bits_text, line}
use Rattle.cmd_settings.specs.Settings.{setting_lines}
use Rattle.cmd_text.proofs.Lines.{room_first, room_second, room_third, put_three}
use Rattle.cmd_settings.proofs.put_lines.Goals as goal

pub put_number-a-requires : goal.put_number-a-requires
unfolding setting_lines
put_number-a-requires c =
    room_first c.args.out.now 0 (line "places " (decimal c.args.n)) (line "setting " (bits_text c.args.bits.now) ++ line "entries " (decimal c.args.entries)) (omega (arith, c.requires))

pub put_setting-b-requires : goal.put_setting-b-requires
unfolding setting_lines
put_setting-b-requires c =
    room_second (line "setting " (bits_text c.args.bits.now)) (line "entries " (decimal c.args.entries)) c.put_number-a.ensures (omega (arith, c.requires))

pub put_number-requires : goal.put_number-requires
unfolding setting_lines
put_number-requires c =
    room_third (line "setting " (bits_text c.args.bits.now)) (line "entries " (decimal c.args.entries)) c.put_number-a.ensures (omega (arith, c.requires)) c.put_setting-b.ensures

pub returns : goal.returns
unfolding setting_lines
returns c = put_three _ _ c.put_number-a.ensures (omega (arith, c.requires)) c.put_setting-b.ensures c.put_number.ensures
