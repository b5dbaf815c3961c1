-- `cmd_text::put_bits` meets its contract.
-- Assumes nothing.
use Rattle.cmd_text.specs.Text.{characters}
use Rattle.cmd_text.proofs.Lines.{Laying}
use Rattle.cmd_text.proofs.put_bits.Given as goal

abbrev pub invariant-loop-i : goal.invariant-loop-i
invariant-loop-i l = Laying (characters l.bits) l.initial.out l.at l.out l.i
