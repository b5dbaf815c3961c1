-- `cmd_list::put_orders` meets its contract.
-- Assumes nothing.
use native.Mathlib.Omega.{arith}
use Rattle.cmd_list.proofs.Printing.{printing_starts, order_room_lem, printing_more, printing_ends}
use Rattle.cmd_list.proofs.put_orders.Goals as goal

pub loop-r-init : goal.loop-r-init
loop-r-init c = printing_starts _ _

pub put_order-at-requires : goal.put_order-at-requires
put_order-at-requires c = let l = c.loop-r.invariant in
    let k = c.count_orders.ensures in
    let t = c.loop-r-test.true in
    (c.requires, omega (arith, t, k.0, c.from-total.ensures), order_room_lem l c.requires (omega arith) (omega (arith, t, k.0, c.from-total.ensures)))

pub loop-r-preserved : goal.loop-r-preserved
loop-r-preserved c = let l = c.loop-r.invariant in
    let k = c.count_orders.ensures in
    let t = c.loop-r-test.true in
    let p = c.put_order-at in
    printing_more l c.requires (omega arith) (omega (arith, t, k.0, c.from-total.ensures)) p.ensures p.auto.out

pub returns : goal.returns
returns c = let k = c.count_orders.ensures in
    printing_ends c.loop-r.invariant (omega (arith, k.0, c.from-total.ensures, c.loop-r-test.false))
