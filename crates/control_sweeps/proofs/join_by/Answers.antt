-- The first i values are again what they were and their trails have lost; those still to come are as they were.
-- Assumes nothing.
use native.Mathlib.Omega.{arith}
use mathlib.Core.Path.{◌≡◌, refl}
use Prim.Native.Nat.{◌+◌, ◌*◌, ◌/◌, ◌%◌}
use lib.Dec.{eqb}
use lib.ListN.{get_or}
use Rattle.steps.specs.Sweeps.{each}
use Rattle.wirings.specs.Nets.{wiring_of, net_of, place_of}
use Rattle.control_sweeps.proofs.Places.{each_step, still, ahead-below}
use Rattle.control_sweeps.proofs.join_by.Goals as goal

pub loop-i-init : goal.loop-i-init
unfolding each
loop-i-init c = (refl, refl)

pub value_of-requires : goal.value_of-requires
value_of-requires c = let l = c.loop-i in
    let a = c.args in (
      c.requires.0,
      ahead-below (net_of a.t a.o a.m a.apart)
          (λ j v. (wiring_of a.t).enc a.k (v, eqb (get_or a.trails.now (a.o + j * a.apart) 0 % 2) 1)) l.vals a.vals.now
          l.i c.requires.1.inside.apart l.invariant.0 c.requires.3 (omega arith),
      omega arith,
    )

pub loop-i-preserved : goal.loop-i-preserved
loop-i-preserved c = let l = c.loop-i in
    let a = c.args in
    let same = still (net_of a.t a.o a.m a.apart) (λ j t. t / 2) l.trails a.trails.now l.i
    c.requires.1.inside.apart l.invariant.1 in (
      rw (c.value_of.ensures, same)
          (each_step (place_of (net_of a.t a.o a.m a.apart))
          (λ j v. (wiring_of a.t).enc a.k (v, eqb (get_or a.trails.now (a.o + j * a.apart) 0 % 2) 1)) l.vals a.vals.now
          l.i l.invariant.0),
      each_step (place_of (net_of a.t a.o a.m a.apart)) (λ j t. t / 2) l.trails a.trails.now l.i l.invariant.1,
    )

pub returns : goal.returns
returns c = let l = c.loop-i in
    let e : l.i ≡ c.args.m = omega arith in
    record { values_are = rw (← e) l.invariant.0; trails_are = rw (← e) l.invariant.1 }
