-- `shuffle::shuffle` meets its contract.
-- Assumes nothing.
use mathlib.Core.Path.{◌≡◌, sym, ap, ◌∙◌}
use mathlib.Core.List.{List, ◌++◌}
use Prim.Native.Nat.{ℕ}
use native.Mathlib.Omega.{arith}
use lib.ListN.{length, take, drop, length-take}
use lib.Seq.{length-take-le}
use Rattle.permutation.specs.Permutations.{identity}
use Rattle.shuffle.proofs.Outcomes.{shuffle_large, shuffle_short, shuffle_out, shuffle_done}
use Rattle.shuffle.proofs.shuffle.Goals as goal

pub returns-then-n-gt-MOST_PLACES : goal.returns-then-n-gt-MOST_PLACES
returns-then-n-gt-MOST_PLACES c = rw c.of.ensures (shuffle_large _ _ _ c.if-n-gt-MOST_PLACES.true)

pub returns-then-out-n : goal.returns-then-out-n
returns-then-out-n c = rw c.of-then-out-n.ensures (shuffle_short _ _ _ c.if-n-gt-MOST_PLACES.false c.if-out-n.true)

pub returns-in_default : goal.returns-in_default
returns-in_default c =
    rw c.of-in_default.ensures (shuffle_out _ _ _ c.if-n-gt-MOST_PLACES.false c.if-out-n.false c.in_default.ensures)

pub slice_bounds-exchange-end : goal.slice_bounds-exchange-end
slice_bounds-exchange-end c = sym (length-take-le _ _ (omega (arith, c.if-n-gt-MOST_PLACES.false, c.choose.auto)))

pub exchange-requires : goal.exchange-requires
exchange-requires c = let short = length-take c.args.n c.choose.new.kept in
    (omega (arith, short, c.if-out-n.false), omega (arith, short, c.if-n-gt-MOST_PLACES.false))

pub returns : goal.returns
returns c =
    let n = c.args.n in
    let out = c.args.out.now in
    let front : length (take n out) ≡ n = length-take-le n out c.if-out-n.false in
    let numbered : c.number_places.new.out ++ drop n out ≡ identity n ++ drop n out =
    ap (λ (l : List ℕ). l ++ drop n out) (c.number_places.ensures ∙ ap identity front) in
    shuffle_done _ _ _ c.if-n-gt-MOST_PLACES.false c.if-out-n.false c.in-Some.ensures
    (omega (arith, c.if-n-gt-MOST_PLACES.false, c.choose.auto)) numbered c.exchange.ensures
