-- `sheet_writer::fourteen` meets its contract.
-- Assumes nothing.
use mathlib.Core.Path.{◌≡◌}
use lib.ListN.{length}
use Rattle.sheet_writer.proofs.Writing.{last_number}
use Rattle.sheet_writer.proofs.fourteen.Given as goal

abbrev pub invariant-loop-bit : goal.invariant-loop-bit
invariant-loop-bit l = l.number ≡ last_number l.bits (length l.yielded)
