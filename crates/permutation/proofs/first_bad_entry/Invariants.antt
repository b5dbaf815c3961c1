-- `permutation::first_bad_entry` meets its contract.
-- Assumes nothing.
use lib.ListN.{length}
use Rattle.permutation.specs.Permutations.{good_entry}
use Rattle.permutation.proofs.Sweeps.{Sweeping}
use Rattle.permutation.proofs.first_bad_entry.Given as goal

abbrev pub invariant-loop-i : goal.invariant-loop-i
invariant-loop-i l = Sweeping (good_entry (length l.order) l.order) (length l.order) l.low l.i
