-- The sweeps do what step 4 says.
-- Assumes nothing.
use native.Mathlib.Omega.{arith}
use mathlib.Core.Path.{refl, ap}
use Prim.Native.Nat.{◌-◌}
use Rattle.counts.specs.Counts.{up}
use Rattle.control_sweeps.proofs.Places.{small}
use Rattle.control_walk.specs.declared.Walk.{Walk}
use Rattle.control_walk.proofs.Going.{went_one}
use Rattle.control_layers.proofs.Stepping.{step4_is}
use Rattle.control_layers.proofs.step4.Goals as goal

pub write_entry-requires : goal.write_entry-requires
write_entry-requires c = let z = small c.requires.1 c.requires.0 in
    (c.requires.4, omega (arith, z), omega (arith, z), c.requires.6)

pub returns : goal.returns
returns c = let x = c.act_on.ensures in
    let a = c.args in
    let n = up a.net.size - 1 in (
      went_one 4 a.net.start a.net.size a.w.b n a.w c.passed.result a.log.now _
          (ap (λ (r : Walk). r.e) c.passed.ensures)
          (ap (λ (r : Walk). r.b) c.passed.ensures) (rw c.number.ensures at c.write_entry.ensures),
      λ ms.
          step4_is a.net a.w.b a.vals.now a.trails.now ms a.bits.now a.w c.passed.result n _ _ _ x.0 x.1
          refl c.passed.ensures,
    )
