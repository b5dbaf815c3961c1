-- The greatest number so far is one more than the last place that holds a; c is one more than the places so far.
-- Assumes nothing.
use mathlib.Core.Path.{◌≡◌}
use Prim.Native.Nat.{◌+◌}
use Rattle.control_rows.proofs.Counting.{Best}
use Rattle.control_rows.proofs.seek_in.Given as goal

abbrev pub invariant-loop-x : goal.invariant-loop-x
invariant-loop-x l = (l.c ≡ l.x-index + 1) × Best l.row l.a l.x-index l.best
