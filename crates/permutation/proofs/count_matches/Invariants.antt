-- `permutation::count_matches` meets its contract.
-- Assumes nothing.
use mathlib.Core.Path.{◌≡◌}
use Rattle.permutation.specs.Permutations.{matches}
use Rattle.permutation.proofs.count_matches.Given as goal

abbrev pub invariant-loop-entry : goal.invariant-loop-entry
invariant-loop-entry l = l.c ≡ matches l.entries l.entry-index l.x
