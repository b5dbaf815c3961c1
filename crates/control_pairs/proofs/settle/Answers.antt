-- The pairs so far are as they will stand, and the lowest unmarked of them is known; c counts with them.
-- Assumes nothing.
use native.Mathlib.Omega.{arith}
use mathlib.Core.Path.{◌≡◌, refl, ap, ◌∙◌}
use mathlib.Core.List.{List}
use Prim.Native.Nat.{ℕ, ◌+◌, ◌*◌, ◌%◌, ◌≤◌}
use lib.ListN.{length, take}
use Rattle.std.proofs.lemmas.List.{length-take}
use Rattle.answers.specs.Questions.{first_bad_from}
use Rattle.steps.specs.Sweeps.{store}
use Rattle.control_rows.specs.Rows.{sixteens}
use Rattle.control_pairs.specs.Pairs.{Numbered}
use Rattle.control_pairs.proofs.Lowest.{low_of, good_in, low_step, least_within, low-marked, low_open, low_whole}
use Rattle.control_pairs.proofs.Settling.{store_none, store_step, final, numbered_after, settled-pick, settled-final, front_numbered, front_settled}
use Rattle.control_pairs.proofs.settle.Goals as goal

pub loop-pair-init : goal.loop-pair-init
unfolding first_bad_from
loop-pair-init c = let a = c.args in
    ((refl, omega arith), store_none (take c.sixteens-r.result a.pairs.now) a.p (a.p + 1024 + 2048 * a.bit), refl)

pub least-low-requires : goal.least-low-requires
unfolding Numbered
least-low-requires c = let l = c.loop-pair in
    let a = c.args in
    let front : List ℕ = take c.sixteens-r.result a.pairs.now in
    let fits : length front ≡ c.sixteens-r.result = omega (arith, length-take c.sixteens-r.result a.pairs.now) in
    let long : sixteens a.k ≤ length front = omega (arith, fits) in
    let N = front_numbered a.k c.sixteens-r.result a.pairs.now c.sixteens-r.ensures c.requires.5 in
    let f = rw c.from.ensures at c.pick.ensures in
    let y = settled-final a.k a.p a.bit front c.requires.1 long c.requires.4 N l.pair-items l.c l.pair-index c.pick.result
    l.invariant.0.0 (omega (arith, fits)) l.invariant.1 f in
    (omega arith, omega (arith, y, numbered_after a.k a.p a.bit front c.requires.1 long c.requires.4 N l.pair-index (omega (arith, fits))))

pub loop-pair-preserved : goal.loop-pair-preserved
unfolding Numbered
loop-pair-preserved c = let y = c.pick in
    let l = c.loop-pair in
    let a = c.args in
    let k = a.k in
    let i = l.pair-index in
    let front : List ℕ = take c.sixteens-r.result a.pairs.now in
    let fits : length front ≡ c.sixteens-r.result = omega (arith, length-take c.sixteens-r.result a.pairs.now) in
    let long : sixteens k ≤ length front = omega (arith, fits) in
    let N = front_numbered k c.sixteens-r.result a.pairs.now c.sixteens-r.ensures c.requires.5 in
    let f = rw c.from.ensures at c.pick.ensures in
    let fin = final k a.p a.bit front c.requires.1 long c.requires.4 N in
    let picked = settled-pick k a.p a.bit front c.requires.1 long c.requires.4 N l.pair-items l.c i y.result
    l.invariant.0.0 l.invariant.1 f in
    let at = settled-final k a.p a.bit front c.requires.1 long c.requires.4 N l.pair-items l.c i y.result
    l.invariant.0.0 (omega (arith, fits)) l.invariant.1 f in
    let own = numbered_after k a.p a.bit front c.requires.1 long c.requires.4 N i (omega (arith, fits)) in
    let o : y.result % 1024 ≡ i = ap (λ x. x % 1024) at ∙ own.0 in
    let w : low_of (good_in k fin) k i ≤ k = omega (arith, l.invariant.2, l.invariant.0.1) in (
      (omega arith, rw c.least-low.ensures (least_within l.low y.result k l.invariant.0.1)),
      rw picked (store_step l.pair-items front i a.p (a.p + 1024 + 2048 * a.bit) l.invariant.1),
      rw (c.least-low.ensures, l.invariant.2)
          (low_step (good_in k fin) k i y.result w (low-marked k fin i y.result at o (omega arith)) (low_open k fin i y.result at o)),
    )

pub returns : goal.returns
returns c = let l = c.loop-pair in
    let a = c.args in
    let n = c.sixteens-r.result in
    let front : List ℕ = take n a.pairs.now in
    let v : ℕ = a.p + 1024 + 2048 * a.bit in
    let all : l.pair-index ≡ n = omega (arith, length-take n a.pairs.now) in
    let s : l.pair-items ≡ store (λ j. j) n a.p v front = rw all at l.invariant.1 in
    let e : l.pair-index ≡ sixteens a.k = omega (arith, all) in
    front_settled a.k a.p a.bit n l.low a.pairs.now l.pair-items c.sixteens-r.ensures (omega arith) s
    (l.invariant.2
    ∙ ap (low_of (good_in a.k (store (λ j. j) (sixteens a.k) a.p v front)) a.k) e
    ∙ low_whole a.k (store (λ j. j) (sixteens a.k) a.p v front)
    ∙ rw (← c.sixteens-r.ensures, ← s))
