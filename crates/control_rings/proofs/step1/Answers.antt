-- The sweeps give what step 1 says.
-- Assumes nothing.
use native.Mathlib.Omega.{arith}
use mathlib.Core.Path.{refl}
use Prim.Native.Nat.{◌-◌, ◌<◌}
use lib.Dec.{eqb}
use Rattle.counts.specs.Counts.{up}
use Rattle.wirings.specs.Nets.{wiring_of}
use Rattle.control_sides.proofs.Bounds.{first_below}
use Rattle.control_sweeps.proofs.Bounds.{pick-below}
use Rattle.control_walk.proofs.Going.{went_one}
use Rattle.control_rings.proofs.Stepping.{look_small, step1_is}
use Rattle.control_rings.proofs.step1.Goals as goal

pub look_in-g-requires : goal.look_in-g-requires
look_in-g-requires c = let a = c.args in
    let n = c.first_of-last in
    let last : n.result < 32768 = rw n.ensures
    (first_below a.net.topology (up a.net.size) (up a.net.size - 1) (omega (arith, c.requires.1))) in
    (omega arith, omega arith, rw c.pick-f.ensures (pick-below (eqb a.w.any 1) c.requires.5 last))

pub returns : goal.returns
returns c = let g = c.look_in-g in
    let q = c.pick-c in
    let p = c.pick-f in
    let n = c.first_of-last in
    let a = c.args in
    let last : n.result < 32768 = rw n.ensures
    (first_below a.net.topology (up a.net.size) (up a.net.size - 1) (omega (arith, c.requires.1))) in
    let f : p.result < 32768 = rw p.ensures (pick-below (eqb a.w.any 1) c.requires.5 last) in (
      went_one 1 a.net.start a.net.size a.w.b 0 a.w _ a.log.now _ (omega arith) (omega arith)
          (rw c.number.ensures at c.write_entry.ensures),
      refl,
      (
        f,
        rw q.ensures (pick-below (eqb a.w.any 1) c.requires.6 last),
        rw g.ensures (look_small a.net.size a.row.now p.result c.requires.4 f),
      ),
      λ place vs ts ms bs bit G any.
          step1_is (wiring_of a.net.topology) place a.net.size bit vs ts a.w a.row.now ms bs n.result p.result
          q.result g.result G any
          n.ensures p.ensures q.ensures g.ensures,
    )
