-- The first i values have kept their pairs and their trails have gained; those still to come are as they were.
-- Assumes nothing.
use native.Mathlib.Omega.{arith}
use mathlib.Core.Path.{◌≡◌, refl}
use Prim.Native.Nat.{◌+◌, ◌*◌}
use lib.ListN.{get_or}
use Rattle.steps.specs.Steps.{digit}
use Rattle.steps.specs.Sweeps.{each}
use Rattle.wirings.specs.Nets.{wiring_of, net_of, place_of}
use Rattle.select.proofs.Numbers.{digit_small}
use Rattle.control_sweeps.proofs.Places.{each_step, still, ahead-below}
use Rattle.control_sweeps.proofs.split_by.Goals as goal

pub loop-i-init : goal.loop-i-init
unfolding each
loop-i-init c = (refl, refl)

pub overflow_mul-trails : goal.overflow_mul-trails
overflow_mul-trails c = let l = c.loop-i in
    let a = c.args in
    omega (
      arith,
      ahead-below (net_of a.t a.o a.m a.apart)
          (λ j t. t * 2 + digit ((wiring_of a.t).dec a.k (get_or a.vals.now (a.o + j * a.apart) 0)).1) l.trails
          a.trails.now l.i c.requires.1.inside.apart l.invariant.1 c.requires.4 (omega arith),
    )

pub side_of-requires : goal.side_of-requires
side_of-requires c = let l = c.loop-i in
    let a = c.args in (
      c.requires.0,
      ahead-below (net_of a.t a.o a.m a.apart) (λ j v. ((wiring_of a.t).dec a.k v).0) l.vals a.vals.now
          l.i c.requires.1.inside.apart l.invariant.0 c.requires.3 (omega arith),
    )

pub overflow_add-trails : goal.overflow_add-trails
overflow_add-trails c = let l = c.loop-i in
    let a = c.args in
    rw c.side_of.ensures (omega (
      arith,
      ahead-below (net_of a.t a.o a.m a.apart)
          (λ j t. t * 2 + digit ((wiring_of a.t).dec a.k (get_or a.vals.now (a.o + j * a.apart) 0)).1) l.trails
          a.trails.now l.i c.requires.1.inside.apart l.invariant.1 c.requires.4 (omega arith),
      digit_small
          ((wiring_of a.t).dec a.k (get_or l.vals (a.o + l.i * a.apart) 0)).1,
    ))

pub pair_of-requires : goal.pair_of-requires
pair_of-requires c = let l = c.loop-i in
    let a = c.args in (
      c.requires.0,
      ahead-below (net_of a.t a.o a.m a.apart) (λ j v. ((wiring_of a.t).dec a.k v).0) l.vals a.vals.now
          l.i c.requires.1.inside.apart l.invariant.0 c.requires.3 (omega arith),
    )

pub loop-i-preserved : goal.loop-i-preserved
loop-i-preserved c = let l = c.loop-i in
    let a = c.args in
    let same = still (net_of a.t a.o a.m a.apart) (λ j v. ((wiring_of a.t).dec a.k v).0) l.vals a.vals.now l.i
    c.requires.1.inside.apart l.invariant.0 in (
      rw c.pair_of.ensures (each_step (place_of (net_of a.t a.o a.m a.apart)) (λ j v. ((wiring_of a.t).dec a.k v).0)
          l.vals a.vals.now l.i l.invariant.0),
      rw (c.side_of.ensures, same)
          (each_step (place_of (net_of a.t a.o a.m a.apart))
          (λ j t. t * 2 + digit ((wiring_of a.t).dec a.k (get_or a.vals.now (a.o + j * a.apart) 0)).1) l.trails
          a.trails.now l.i l.invariant.1),
    )

pub returns : goal.returns
returns c = let l = c.loop-i in
    let e : l.i ≡ c.args.m = omega arith in
    record { values_are = rw (← e) l.invariant.0; trails_are = rw (← e) l.invariant.1 }
