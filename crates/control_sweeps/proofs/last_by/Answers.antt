-- The first i bits are written.
-- Assumes nothing.
use native.Mathlib.Omega.{arith}
use mathlib.Core.Path.{◌≡◌, refl}
use Prim.Native.Nat.{◌+◌, ◌*◌, ◌%◌}
use lib.ListN.{get_or}
use Rattle.steps.specs.Sweeps.{each}
use Rattle.control_sweeps.proofs.Places.{each_step}
use Rattle.control_sweeps.proofs.last_by.Goals as goal

pub loop-i-init : goal.loop-i-init
unfolding each
loop-i-init c = refl

pub loop-i-preserved : goal.loop-i-preserved
loop-i-preserved c = let l = c.loop-i in
    let a = c.args in
    each_step (λ j. a.b + j) (λ j x. get_or a.trails.now (a.o + j * a.step) 0 % 2) l.bits a.bits.now l.i l.invariant

pub returns : goal.returns
returns c = let e : c.loop-i.i ≡ c.args.n = omega arith in rw (← e) c.loop-i.invariant
