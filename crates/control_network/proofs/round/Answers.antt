-- The three steps one after the other; the hidden numbers stay small on the way.
-- Assumes nothing.
use native.Mathlib.Omega.{arith}
use mathlib.Core.Path.{◌≡◌, refl, sym, ap, ◌∙◌}
use mathlib.Core.Bool.{Bool, not}
use mathlib.Core.List.{List, [], ◌∷◌}
use Prim.Native.Nat.{ℕ, ◌-◌}
use Rattle.counts.specs.Counts.{up}
use Rattle.network.specs.Log.{entry}
use Rattle.steps.specs.Steps.{digit, step2, step3}
use Rattle.steps.specs.Fold.{rounds_of}
use Rattle.control_pairs.specs.Pairs.{marks_in, bits_in}
use Rattle.control_pairs.proofs.Held.{none_held}
use Rattle.wirings.specs.Nets.{wiring_of}
use Rattle.control_walk.specs.Walks.{lying}
use Rattle.control_network.proofs.Entries.{went_then, went_as}
use Rattle.control_network.proofs.round.Goals as goal

pub returns : goal.returns
unfolding rounds_of
returns c = let a = c.args in
    let p = c.requires in
    let x = c.step1-x in
    let y = c.step2-y in
    let z = c.step3 in
    let o = a.net.start in
    let m = a.net.size in
    let k = up m in
    let xb : x.result.b ≡ a.w.b = omega (arith, x.ensures.0.bit) in
    let yb : y.result.b ≡ a.w.b = omega (arith, xb, y.ensures.0.bit) in (
      went_as (λ i. entry 1 o m a.w.b ∷ entry 2 o m (xb i) ∷ entry 3 o m (yb i) ∷ []) refl
          (went_then (omega (arith, p.3)) x.ensures.0
          (went_then (omega (arith, p.3, x.ensures.0.count)) y.ensures.0 z.ensures.0)),
      z.ensures.1,
      refl,
      λ place vs ts ms bs bit G long.
          let marks : List ℕ = marks_in k a.rings.now.pairs.now ms in
          let held : List ℕ = bits_in bit (k - 1) a.rings.now.pairs.now bs in
          let any = p.6.any_is ∙ sym (ap (λ (n : Bool). digit (not n)) (none_held k a.rings.now.pairs.now ms long)) in
          z.ensures.2 place vs ts ms bs bit long
          ∙ ap (step3 (wiring_of a.net.topology) (lying place a.net.size bit))
          (y.ensures.3 place vs ts marks held bit G ∙ ap (step2 (wiring_of a.net.topology) (lying place a.net.size bit))
          (x.ensures.3 place vs ts marks held bit G any)),
    )
