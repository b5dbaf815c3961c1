-- What is gathered of the places so far is the number at q once q has passed; c counts with them.
-- Assumes nothing.
use mathlib.Core.Path.{◌≡◌}
use Rattle.control_rows.proofs.Counting.{looked_up}
use Rattle.control_rows.proofs.look_in.Given as goal

abbrev pub invariant-loop-x : goal.invariant-loop-x
invariant-loop-x l = (l.c ≡ l.x-index) × (l.g ≡ looked_up l.row l.q l.x-index)
