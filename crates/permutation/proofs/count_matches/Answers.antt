-- `permutation::count_matches` meets its contract.
-- Assumes nothing.
use mathlib.Core.Path.{◌≡◌, ap, ◌∙◌}
use Prim.Native.Nat.{◌+◌}
use native.Mathlib.Omega.{arith}
use lib.Dec.{eqb}
use lib.ListN.{get_or}
use Rattle.permutation.specs.Permutations.{bit}
use Rattle.permutation.proofs.Sweeps.{bit_small, none_counted, one-counted, counted_within}
use Rattle.permutation.proofs.count_matches.Goals as goal

pub loop-entry-init : goal.loop-entry-init
loop-entry-init c = none_counted _

pub overflow_add-c : goal.overflow_add-c
overflow_add-c c = let es = c.args.entries.now in
    let i = c.loop-entry.entry-index in
    let one : c.from-c.result ≡ bit (eqb (get_or es i 0) c.args.x) = c.from-c.ensures in
    omega (arith, one, counted_within (λ j. eqb (get_or es j 0) c.args.x) i, bit_small (eqb (get_or es i 0) c.args.x))

pub loop-entry-preserved : goal.loop-entry-preserved
loop-entry-preserved c = ap (λ k. c.loop-entry.c + k) c.from-c.ensures ∙ one-counted _ _ c.loop-entry.invariant
