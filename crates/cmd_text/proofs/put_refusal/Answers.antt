-- `cmd_text::put_refusal` meets its contract.
-- Assumes nothing.
use native.Mathlib.Omega.{arith}
use mathlib.Core.List.{◌++◌}
use Rattle.cmd_text.specs.Text.{text, decimal, line, refusal_line}
use Rattle.cmd_text.proofs.Lines.{room_first, room_second, room_third, put_three}
use Rattle.cmd_text.proofs.put_refusal.Goals as goal

pub put_text-a-requires : goal.put_text-a-requires
unfolding refusal_line
put_text-a-requires c =
    room_first c.args.out.now 0 (text "refused ") (decimal c.args.refused.number ++ line " at " (decimal c.args.refused.place)) (omega (arith, c.requires))

pub put_decimal-b-requires : goal.put_decimal-b-requires
unfolding refusal_line
put_decimal-b-requires c =
    room_second (decimal c.args.refused.number) (line " at " (decimal c.args.refused.place)) c.put_text-a.ensures (omega (arith, c.requires))

pub put_number-requires : goal.put_number-requires
unfolding refusal_line
put_number-requires c =
    room_third (decimal c.args.refused.number) (line " at " (decimal c.args.refused.place)) c.put_text-a.ensures (omega (arith, c.requires)) c.put_decimal-b.ensures

pub returns : goal.returns
unfolding refusal_line
returns c = put_three _ _ c.put_text-a.ensures (omega (arith, c.requires)) c.put_decimal-b.ensures c.put_number.ensures
