-- The pairs so far hold their own numbers; c counts with them.
-- Assumes nothing.
use mathlib.Core.Path.{◌≡◌}
use Prim.Native.Nat.{ℕ, ◌<◌}
use lib.ListN.{get_or}
use Rattle.control_pairs.proofs.unmark.Given as goal

abbrev pub invariant-loop-pair : goal.invariant-loop-pair
invariant-loop-pair l = (l.c ≡ l.pair-index) × ((j : ℕ) → j < l.pair-index → get_or l.pair-items j 0 ≡ j)
