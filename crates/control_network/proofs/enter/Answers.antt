-- The input steps, and step 5.
-- Assumes nothing.
use native.Mathlib.Omega.{arith}
use mathlib.Core.Path.{refl, ap, ◌∙◌}
use lib.ListN.{replicate}
use Rattle.steps.specs.Steps.{step5}
use Rattle.steps.specs.State.{State}
use Rattle.steps.proofs.Lengths.{E_parts}
use Rattle.wirings.specs.Nets.{wiring_of}
use Rattle.control_sweeps.proofs.Places.{small, covers_kept}
use Rattle.control_walk.specs.Walks.{subnetwork_of}
use Rattle.control_network.specs.Inner.{unmarked}
use Rattle.control_network.proofs.Entries.{went_then, went_as, W_parts}
use Rattle.control_network.proofs.Trails.{values_within, trails_within}
use Rattle.control_network.proofs.enter.Goals as goal

pub step5-requires : goal.step5-requires
step5-requires c = let a = c.args in
    let x = c.input_steps-x in
    let R = c.requires.1 in
    let far = R.values_room.inside.apart in
    let few = (small R.values_room c.requires.0).0 in
    let before : State = unmarked 512 a.vals.now a.trails.now a.bits.now a.w in
    let is = x.ensures.1 512 (omega (arith, few)) in (
      c.requires.0,
      covers_kept x.new.vals x.auto.vals R.values_room,
      covers_kept x.new.trails x.auto.trails R.trails_room,
      omega (arith, R.few, x.ensures.0.bit, W_parts a.net.size c.requires.0),
      omega (
        arith,
        R.log_room,
        x.auto.log,
        x.ensures.0.count,
        E_parts a.net.start a.net.size a.w.b
            c.requires.0,
      ),
      rw (ap (λ (q : State). q.values) is) (values_within a.net far a.w.b c.requires.0 before c.requires.3 few),
      rw (ap (λ (q : State). q.trails) is) (trails_within a.net far a.w.b c.requires.0 before c.requires.3 c.requires.4),
      omega (arith, R.few),
    )

pub returns : goal.returns
returns c = let a = c.args in
    let x = c.input_steps-x in
    let y = c.step5 in (
      went_as refl (omega arith)
          (went_then (omega (arith, c.requires.1.log_room, E_parts a.net.start a.net.size a.w.b c.requires.0))
          x.ensures.0 y.ensures.0),
      λ j l.
          y.ensures.1 (replicate j 0) x.new.bits a.w.b
          ∙ ap (step5 (wiring_of a.net.topology) (subnetwork_of a.net a.w.b)) (x.ensures.1 j l),
    )
