-- `record_entries::invert` meets its contract.
-- Assumes nothing.
use Rattle.permutation.specs.Permutations.{IsPermutation}
use mathlib.Core.Path.{refl}
use Prim.Native.Nat.{◌<◌}
use native.Mathlib.Omega.{arith}
use lib.ListN.{take}
use Rattle.record_entries.proofs.Fillings.{filling_starts, filling_more, filled_back}
use Rattle.record_entries.proofs.invert.Goals as goal

-- the entry that was read is a place
entry-below : (c : goal.After-from) → c.from.result < c.args.n
entry-below c =
    let P : IsPermutation c.args.n (take c.args.n c.args.f.now) = c.requires.1 in
    omega (arith, c.from.ensures, P.below c.loop-i.i (omega (arith, P.whole)))

pub loop-i-init : goal.loop-i-init
loop-i-init c = filling_starts _ _ _

pub loop-i-preserved : goal.loop-i-preserved
loop-i-preserved c = let a = c.args in
    let P : IsPermutation a.n (take a.n a.f.now) = c.requires.1 in
    let i = c.loop-i.i in
    filling_more _ _ _ (omega (arith, P.whole)) (omega arith) c.from.ensures (entry-below c)
    (λ j l q. omega (arith, P.unlike j i (omega (arith, P.whole)) (omega (arith, P.whole)) q)) refl c.loop-i.invariant

pub returns : goal.returns
returns c = let P : IsPermutation _ _ = c.requires.1 in
    filled_back _ _ P (omega arith) (omega (arith, P.whole)) c.loop-i.invariant
