-- The sweeps do what step 6 says.
-- Assumes nothing.
use native.Mathlib.Omega.{arith}
use mathlib.Core.Path.{ap}
use Rattle.network.specs.Network.{down}
use Rattle.control_sweeps.proofs.Places.{small, covers_kept}
use Rattle.control_walk.specs.declared.Walk.{Walk}
use Rattle.control_walk.proofs.Going.{went_one}
use Rattle.control_layers.proofs.Stepping.{outputs_within, step6_is}
use Rattle.control_layers.proofs.step6.Goals as goal

pub overflow_cast-k : goal.overflow_cast-k
overflow_cast-k c = omega (arith, small c.requires.1 c.requires.0)

pub join_values-requires : goal.join_values-requires
join_values-requires c = let x = c.output_switches in (
  omega (arith, small c.requires.1 c.requires.0),
  covers_kept x.new.vals x.auto.vals c.requires.1,
  covers_kept x.new.trails x.auto.trails c.requires.2,
  rw x.ensures.values_are (outputs_within c.args.net 32768 _ _ c.args.vals.now c.requires.6),
)

pub write_entry-requires : goal.write_entry-requires
write_entry-requires c = let z = small c.requires.1 c.requires.0 in
    (c.requires.4, omega (arith, z), omega (arith, z), c.requires.7)

pub returns : goal.returns
returns c = let a = c.args in
    let n = down a.net.size in (
      went_one 6 a.net.start a.net.size a.first n a.w c.passed.result a.log.now _
          (ap (λ (r : Walk). r.e) c.passed.ensures)
          (ap (λ (r : Walk). r.b) c.passed.ensures) (rw c.number.ensures at c.write_entry.ensures),
      λ ms bit e.
          step6_is a.net bit a.vals.now a.trails.now ms a.bits.now a.w c.passed.result n a.w.b _ _ _ _ _
          c.output_switches.ensures c.join_values.ensures c.passed.ensures e,
    )
