-- The first i switches have acted on both tables.
-- Assumes nothing.
use native.Mathlib.Omega.{arith}
use mathlib.Core.Path.{◌≡◌, refl}
use mathlib.Core.Bool.{true, false}
use Prim.Native.Nat.{◌+◌}
use Rattle.steps.specs.Sweeps.{act}
use Rattle.wirings.specs.Nets.{stepped}
use Rattle.control_sweeps.proofs.Places.{at_place, act-step}
use Rattle.control_sweeps.proofs.act_by.Goals as goal

pub loop-i-init : goal.loop-i-init
unfolding act
loop-i-init c = (refl, refl)

pub pick-requires : goal.pick-requires
pick-requires c = rw c.from-s.ensures
    (at_place 2 c.args.bits.now (c.args.b + c.loop-i.i) c.requires.3)

pub pick-requires-in-loop-i : goal.pick-requires-in-loop-i
pick-requires-in-loop-i c = rw c.from-s.ensures
    (at_place 2 c.args.bits.now (c.args.b + c.loop-i.i) c.requires.3)

pub pick-requires-in-loop-i-2 : goal.pick-requires-in-loop-i-2
pick-requires-in-loop-i-2 c = rw c.from-s.ensures
    (at_place 2 c.args.bits.now
    (c.args.b + c.loop-i.i) c.requires.3)

pub pick-requires-in-loop-i-3 : goal.pick-requires-in-loop-i-3
pick-requires-in-loop-i-3 c = rw c.from-s.ensures
    (at_place 2 c.args.bits.now
    (c.args.b + c.loop-i.i) c.requires.3)

pub loop-i-preserved : goal.loop-i-preserved
loop-i-preserved c = let w = c.from-s in
    let l = c.loop-i in
    let a = c.args in
    let at = stepped a.o a.step a.gap in
    let p = at (l.i, false) in
    let q = at (l.i, true) in (
      rw (c.pick-in-loop-i.ensures, c.pick.ensures)
          (act-step p q l.i w.result at a.bits.now l.vals a.vals.now a.b refl refl w.ensures l.invariant.0),
      rw (c.pick-in-loop-i-3.ensures, c.pick-in-loop-i-2.ensures)
          (act-step p q l.i w.result at a.bits.now l.trails a.trails.now a.b refl refl w.ensures l.invariant.1),
    )

pub returns : goal.returns
returns c = let l = c.loop-i in
    let e : l.i ≡ c.args.n = omega arith in
    (rw (← e) l.invariant.0, rw (← e) l.invariant.1)
