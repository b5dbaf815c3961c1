-- The sweep gives what step 2 says.
-- Assumes nothing.
use native.Mathlib.Omega.{arith}
use mathlib.Core.Path.{refl}
use Rattle.counts.specs.Counts.{up}
use Rattle.wirings.specs.Nets.{wiring_of}
use Rattle.control_sides.proofs.Bounds.{other-below}
use Rattle.control_sweeps.proofs.Bounds.{seek-below}
use Rattle.control_walk.proofs.Going.{went_one}
use Rattle.control_rings.proofs.Stepping.{step2_is}
use Rattle.control_rings.proofs.step2.Goals as goal

pub seek_in-s-requires : goal.seek_in-s-requires
seek_in-s-requires c =
    (omega arith, omega arith, rw c.other_of.ensures (other-below c.args.net.topology _ _ (omega arith) c.requires.5), c.requires.4)

pub returns : goal.returns
returns c = let q = c.seek_in-s in
    let o = c.other_of in
    let a = c.args in
    let small = other-below a.net.topology (up a.net.size) a.w.g (omega (arith, c.requires.1)) c.requires.5 in (
      went_one 2 a.net.start a.net.size a.w.b 0 a.w _ a.log.now _ (omega arith) (omega arith)
          (rw c.number.ensures at c.write_entry.ensures),
      refl,
      (refl, refl, rw q.ensures (seek-below (λ i. i) a.net.size a.row.now o.result (omega arith) (rw o.ensures small))),
      λ place vs ts ms bs bit G.
          step2_is (wiring_of a.net.topology) place a.net.size bit vs ts a.w a.row.now ms bs o.result q.result G
          o.ensures q.ensures,
    )
