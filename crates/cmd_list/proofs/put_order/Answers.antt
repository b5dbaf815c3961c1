-- `cmd_list::put_order` meets its contract.
-- Assumes nothing.
use mathlib.Core.Path.{sym}
use native.Mathlib.Omega.{arith}
use lib.Seq.{length-take-le}
use Rattle.cmd_list.proofs.Order.{six_switches, zeros, not_refused, bits_there, line_room, line-done}
use Rattle.cmd_list.proofs.put_order.Goals as goal

pub slice_bounds-bits-end : goal.slice_bounds-bits-end
slice_bounds-bits-end c = omega (arith, c.switches-w.ensures.0, six_switches c.args.n c.requires.0)

pub slice_bounds-ranked_order-end-2 : goal.slice_bounds-ranked_order-end-2
slice_bounds-ranked_order-end-2 c = let w = c.switches-w in
    sym (length-take-le w.result (zeros 11) (omega (arith, w.ensures.0, six_switches c.args.n c.requires.0)))

pub slice_bounds-put_line-end : goal.slice_bounds-put_line-end
slice_bounds-put_line-end c = sym (length-take-le c.args.n c.ranked_order.new.order (omega (arith, c.ranked_order.auto, c.requires.0)))

pub slice_bounds-bits-end-2 : goal.slice_bounds-bits-end-2
slice_bounds-bits-end-2 c = let w = c.switches-w in
    let a = c.args in
    bits_there a.n a.r w.result c.requires.0 c.requires.1 w.ensures.0 c.ranked_order.result c.ranked_order.ensures

pub slice_bounds-put_line-end-2 : goal.slice_bounds-put_line-end-2
slice_bounds-put_line-end-2 c = let w = c.switches-w in
    let a = c.args in
    sym (length-take-le _ _ (bits_there a.n a.r w.result c.requires.0 c.requires.1 w.ensures.0 c.ranked_order.result c.ranked_order.ensures))

pub put_line-requires : goal.put_line-requires
put_line-requires c = let w = c.switches-w in
    let a = c.args in
    line_room a.n a.r w.result c.requires.0 c.requires.1 w.ensures.0 c.ranked_order.result c.ranked_order.ensures a.at _ c.requires.2

pub returns : goal.returns
returns c = let w = c.switches-w in
    let a = c.args in
    let line = c.put_line.ensures in
    line-done a.n a.r w.result c.requires.0 c.requires.1 w.ensures.0 c.ranked_order.result c.ranked_order.ensures line

pub unwrap-requires : goal.unwrap-requires
unwrap-requires c = let w = c.switches-w in
    let a = c.args in
    not_refused a.n a.r w.result c.requires.0 c.requires.1 w.ensures.0 c.ranked_order.result c.ranked_order.ensures
