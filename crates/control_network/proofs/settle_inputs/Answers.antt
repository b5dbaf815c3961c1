-- The rounds on what was gathered, from pairs of which none is marked; what they settle is given to the bits.
-- Assumes nothing.
use native.Mathlib.Omega.{arith}
use mathlib.Core.Path.{refl, sym, ap, ◌∙◌}
use mathlib.Core.Bool.{Bool, not}
use mathlib.Core.List.{List}
use Prim.Native.Nat.{ℕ, ◌-◌, ◌≤◌}
use lib.ListN.{replicate, length-replicate}
use Rattle.counts.specs.Counts.{up}
use Rattle.steps.specs.State.{State}
use Rattle.steps.specs.Steps.{digit}
use Rattle.steps.specs.Sequence.{rounds}
use Rattle.steps.specs.Fold.{rounds_of}
use Rattle.wirings.specs.Nets.{wiring_of, place_of}
use Rattle.control_sweeps.proofs.Places.{small}
use Rattle.control_pairs.specs.Pairs.{marks_in, bits_in, Numbered}
use Rattle.control_pairs.proofs.Held.{unmarked_numbered, unmarked_none, unmarked_marks, unmarked_bits}
use Rattle.control_walk.specs.declared.Walk.{Walk}
use Rattle.control_walk.specs.Walks.{state, subnetwork_of}
use Rattle.control_network.proofs.Entries.{went_as, went_from, small_gathered}
use Rattle.control_network.proofs.settle_inputs.Goals as goal

pub gather-requires : goal.gather-requires
gather-requires c = ((small c.requires.1 c.requires.0).0, c.requires.1.inside.lies)

pub unmark-requires : goal.unmark-requires
unmark-requires c = omega (arith, small c.requires.1 c.requires.0)

pub rounds-x-requires : goal.rounds-x-requires
rounds-x-requires c = let a = c.args in
    let m = a.net.size in
    let u = c.unmark in
    let g = c.gather in
    let w = c.unmarked in
    let z = small c.requires.1 c.requires.0 in
    let few : up m ≤ 512 = omega (arith, z) in (
      c.requires.0,
      z.0,
      z.1,
      omega (arith, c.requires.3, ap (λ (r : Walk). r.e) w.ensures),
      small_gathered (place_of a.net) m a.vals.now g.new.row c.requires.4 g.ensures.0,
      g.ensures.1,
      record {
        numbered = unmarked_numbered (up m) u.new.pairs few u.ensures;
        any_is = ap (λ (r : Walk). r.any) w.ensures ∙ sym
            (ap (λ (n : Bool). digit (not n)) (unmarked_none (up m) u.new.pairs few u.ensures));
        f_below = omega (arith, c.requires.5, ap (λ (r : Walk). r.f) w.ensures);
        c_below = omega (arith, c.requires.6, ap (λ (r : Walk). r.c) w.ensures);
      },
      omega (arith, c.requires.7, ap (λ (r : Walk). r.b) w.ensures),
    )

pub give_bits-requires : goal.give_bits-requires
unfolding Numbered
give_bits-requires c = let r = c.rounds-x in
    let u = c.unmark in
    let N = r.ensures.1.numbered in (
      omega (arith, small c.requires.1 c.requires.0),
      c.requires.2,
      λ i l. (N i
          (omega (arith, l, c.requires.0))).1,
    )

pub returns : goal.returns
returns c = let a = c.args in
    let k = up a.net.size in
    let v = c.give_bits in
    let r = c.rounds-x in
    let w = c.unmarked in
    let u = c.unmark in
    let g = c.gather in
    let few : k ≤ 512 = omega (arith, small c.requires.1 c.requires.0) in (
      went_from a.w w.result (ap (λ (x : Walk). x.e) w.ensures) (ap (λ (x : Walk). x.b) w.ensures)
          (went_as (ap (λ (x : Walk). rounds k a.net.start a.net.size x.b) w.ensures) refl r.ensures.0),
      λ ts j h.
          let ms : List ℕ = replicate {A = ℕ} j 0 in
          let of : List ℕ → List ℕ → Walk → State = λ marks bits x. state a.vals.now ts marks bits x in
          ap (λ (bits : List ℕ). of (marks_in k r.new.rings.pairs.now ms) bits r.result) v.ensures
          ∙ r.ensures.3 (place_of a.net) a.vals.now ts ms a.bits.now a.w.b g.ensures.0
          (omega (arith, h, length-replicate {A = ℕ} j 0))
          ∙ ap (rounds_of (wiring_of a.net.topology) (subnetwork_of a.net a.w.b) k)
          (ap (λ (marks : List ℕ). of marks (bits_in a.w.b (k - 1) u.new.pairs a.bits.now) w.result)
          (unmarked_marks k u.new.pairs few u.ensures j)
          ∙ ap (λ (bits : List ℕ). of ms bits w.result)
          (unmarked_bits k u.new.pairs few u.ensures a.w.b (k - 1) a.bits.now (omega arith))
          ∙ ap (of ms a.bits.now) w.ensures),
    )
