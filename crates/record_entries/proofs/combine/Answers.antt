-- `record_entries::combine` meets its contract.
-- Assumes nothing.
use mathlib.Core.Path.{refl}
use Prim.Native.Nat.{◌<◌}
use native.Mathlib.Omega.{arith}
use lib.ListN.{take}
use Rattle.permutation.specs.Permutations.{IsPermutation}
use Rattle.record_entries.proofs.Fillings.{filling_starts, filling_more, combined_read, combined_filled}
use Rattle.record_entries.proofs.combine.Goals as goal

pub loop-i-init : goal.loop-i-init
loop-i-init c = filling_starts _ _ _

pub loop-i-preserved : goal.loop-i-preserved
loop-i-preserved c = let a = c.args in
    let P : IsPermutation a.n (take a.n a.first.now) = c.requires.1 in
    let below : c.from.result < a.n = omega (arith, c.from.ensures, P.below c.loop-i.i (omega (arith, P.whole))) in
    filling_more _ _ _ (omega (arith, P.whole)) (omega arith) refl (omega (arith, P.whole)) (λ j l q. omega arith)
    (combined_read a.n a.first.now a.second.now _ c.from.ensures below) c.loop-i.invariant

pub returns : goal.returns
returns c = let a = c.args in
    let P : IsPermutation a.n (take a.n a.first.now) = c.requires.1 in
    combined_filled a.n a.first.now a.second.now (omega arith) P (omega (arith, P.whole)) c.loop-i.invariant c.fixed_points-fixed.ensures
