-- The pairs so far are as they will stand, and the lowest unmarked of them is known; c counts with them.
-- Assumes nothing.
use mathlib.Core.Path.{◌≡◌}
use Prim.Native.Nat.{◌+◌, ◌*◌, ◌≤◌}
use Rattle.steps.specs.Sweeps.{store}
use Rattle.control_rows.specs.Rows.{sixteens}
use Rattle.control_pairs.proofs.Lowest.{low_of, good_in}
use Rattle.control_pairs.proofs.settle.Given as goal

abbrev pub invariant-loop-pair : goal.invariant-loop-pair
invariant-loop-pair l = ((l.c ≡ l.pair-index) × (l.low ≤ l.k))
    × (l.pair-items ≡ store (λ j. j) l.pair-index l.p (l.p + 1024 + 2048 * l.bit) l.initial.pair-items)
    × (l.low ≡ low_of (good_in l.k (store (λ j. j) (sixteens l.k) l.p (l.p + 1024 + 2048 * l.bit) l.initial.pair-items)) l.k l.pair-index)
