-- Nothing for two places; above, the rounds and step 4.
-- Assumes nothing.
use native.Mathlib.Omega.{arith}
use mathlib.Core.Path.{◌≡◌, refl, sym, ap, ◌∙◌}
use mathlib.Core.List.{List, [], ◌∷◌}
use Prim.Native.Nat.{ℕ, ◌≤◌, ◌<◌}
use lib.ListN.{replicate}
use Rattle.counts.specs.Counts.{up}
use Rattle.counts.proofs.Rule.{E_more}
use Rattle.network.specs.Log.{entry}
use Rattle.steps.specs.State.{State}
use Rattle.steps.specs.Steps.{step4}
use Rattle.steps.proofs.Lengths.{length-rounds}
use Rattle.wirings.specs.Nets.{wiring_of}
use Rattle.control_pairs.specs.Pairs.{marks_in}
use Rattle.control_pairs.proofs.Held.{marks_cleared}
use Rattle.control_sweeps.proofs.Places.{small}
use Rattle.control_walk.specs.Walks.{state, subnetwork_of}
use Rattle.control_network.specs.Inner.{Tidy, unmarked}
use Rattle.control_network.proofs.Bounds.{order_small, tidy_is, tidy_rounds}
use Rattle.control_network.proofs.Trails.{ordered_within}
use Rattle.control_network.proofs.Entries.{went_none, went_then, went_as, input_none, input_some, steps_none, steps_some, W_parts}
use Rattle.control_network.proofs.input_steps.Goals as goal

pub returns-then-net-lt3 : goal.returns-then-net-lt3
returns-then-net-lt3 c = let a = c.args in
    let h : a.net.size < 3 = c.if-net-lt3.true in (
      went_as (input_none a.net.start a.net.size a.w.b h) (omega (arith, c.requires.0)) (went_none a.w a.log.now),
      λ j l. steps_none (wiring_of a.net.topology) (subnetwork_of a.net a.w.b)
          (unmarked j a.vals.now a.trails.now a.bits.now a.w) h,
    )

pub settle_inputs-x-requires : goal.settle_inputs-x-requires
settle_inputs-x-requires c = let a = c.args in
    let h : 3 ≤ a.net.size = c.if-net-lt3.false in
    let R = c.requires.1 in (
      c.requires.0,
      R.values_room,
      omega (arith, R.bits_room, W_parts a.net.size c.requires.0),
      omega (arith, R.log_room, E_more a.net.size h),
      ordered_within a.net a.w.b (unmarked 512 a.vals.now a.trails.now a.bits.now a.w)
          (small R.values_room c.requires.0).0 c.requires.3,
      c.requires.2.f_below,
      c.requires.2.c_below,
      omega (arith, R.few),
    )

pub step4-requires : goal.step4-requires
step4-requires c = let a = c.args in
    let h : 3 ≤ a.net.size = c.if-net-lt3.false in
    let x = c.settle_inputs-x in
    let k = up a.net.size in
    let N = subnetwork_of a.net a.w.b in
    let R = c.requires.1 in
    let few = (small R.values_room c.requires.0).0 in
    let before : State = unmarked k a.vals.now a.trails.now a.bits.now a.w in
    let O = c.requires.3 in
    let T : Tidy (state a.vals.now a.trails.now (marks_in k x.new.rings.pairs.now (replicate k 0)) x.new.bits x.result) =
    tidy_is (sym (x.ensures.1 a.trails.now k (omega arith)))
    (tidy_rounds a.net.topology N few before
    (order_small N O.order (unmarked 512 a.vals.now a.trails.now a.bits.now a.w) few O.permutation O.holding)
    c.requires.2 k)
    in (
      c.requires.0,
      R.values_room,
      R.trails_room,
      omega (arith, R.bits_room, x.auto.bits, x.ensures.0.bit, W_parts a.net.size c.requires.0),
      omega (
        arith,
        R.log_room,
        x.auto.log,
        x.ensures.0.count,
        length-rounds k a.net.start a.net.size a.w.b,
        E_more
            a.net.size h,
      ),
      T.bits_below,
      omega (arith, R.few, x.ensures.0.bit),
    )

pub returns : goal.returns
returns c = let a = c.args in
    let h : 3 ≤ a.net.size = c.if-net-lt3.false in
    let x = c.settle_inputs-x in
    let y = c.step4 in
    let k = up a.net.size in
    let wiring = wiring_of a.net.topology in
    let b : x.result.b ≡ a.w.b = omega (arith, x.ensures.0.bit) in (
      went_as (input_some a.net.start a.net.size a.w.b h) (omega arith)
          (went_then (omega (
            arith,
            c.requires.1.log_room,
            length-rounds k a.net.start a.net.size a.w.b,
            E_more a.net.size
                h,
          ))
          x.ensures.0 (went_as (ap (λ n. entry 4 a.net.start a.net.size n ∷ []) b) refl y.ensures.0)),
      λ j l.
          let marks : List ℕ = marks_in k x.new.rings.pairs.now (replicate j 0) in
          ap (λ (ms : List ℕ). state y.new.vals y.new.trails ms x.new.bits y.result)
          (sym (marks_cleared k j x.new.rings.pairs.now l))
          ∙ y.ensures.1 marks
          ∙ ap (λ n. step4 wiring (subnetwork_of a.net n)
          (state a.vals.now a.trails.now marks x.new.bits x.result)) b
          ∙ ap (step4 wiring (subnetwork_of a.net a.w.b)) (x.ensures.1 a.trails.now j l)
          ∙ steps_some wiring (subnetwork_of a.net a.w.b) (unmarked j a.vals.now a.trails.now a.bits.now a.w) h,
    )
