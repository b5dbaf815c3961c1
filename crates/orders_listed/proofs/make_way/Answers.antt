-- The first i entries have made way; an entry still to come is as it was.
-- Assumes nothing.
use mathlib.Core.Path.{◌≡◌}
use mathlib.Core.Bool.{not}
use Prim.Native.Nat.{◌<◌}
use native.Mathlib.Omega.{arith}
use lib.Dec.{ltb}
use lib.ListN.{get_or}
use Rattle.answers.proofs.Putting.{over_starts}
use Rattle.steps.specs.Steps.{digit}
use Rattle.select.proofs.Numbers.{digit_small}
use Rattle.orders_listed.proofs.Digits.{entry_small, way_more, way_made}
use Rattle.orders_listed.proofs.make_way.Goals as goal

pub loop-x-init : goal.loop-x-init
loop-x-init c = over_starts _ _ _

pub loop-x-preserved : goal.loop-x-preserved
loop-x-preserved c = let l = c.loop-x in
    let up : c.at_least.result ≡ digit (not (ltb (get_or l.order l.x-index 0) c.args.d)) = c.at_least.ensures in
    way_more c.args.d c.args.order.now (omega (arith, c.loop-x-test.true, l.invariant.same)) (rw up) l.invariant

pub at_least-requires : goal.at_least-requires
at_least-requires c = let l = c.loop-x in
    let x : get_or l.order l.x-index 0 < 1024 =
    entry_small c.args.d c.args.order.now c.requires.1 (omega (arith, c.loop-x-test.true, l.invariant.same)) l.invariant
    in
    (omega (arith, x, c.requires.0), omega (arith, x, c.requires.0))

pub overflow_add-x : goal.overflow_add-x
overflow_add-x c = let l = c.loop-x in
    let x : get_or l.order l.x-index 0 < 1024 =
    entry_small c.args.d c.args.order.now c.requires.1 (omega (arith, c.loop-x-test.true, l.invariant.same)) l.invariant
    in
    omega (arith, x, c.at_least.ensures, digit_small (not (ltb (get_or l.order l.x-index 0) c.args.d)))

pub shape_of-order : goal.shape_of-order
shape_of-order c = c.loop-x.invariant.same

pub returns : goal.returns
returns c = let l = c.loop-x in
    way_made _ _ (omega (arith, c.loop-x-test.false, l.invariant.same)) l.invariant
