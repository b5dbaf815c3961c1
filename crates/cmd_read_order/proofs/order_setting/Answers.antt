-- `cmd_read_order::order_setting` meets its contract.
-- Assumes nothing.
use mathlib.Core.Path.{sym}
use mathlib.Core.List.{[]}
use native.Mathlib.Omega.{arith}
use lib.ListN.{length-take}
use lib.Seq.{length-take-le}
use Rattle.std.proofs.lemmas.Result.{err_from_is_err_and}
use Rattle.cmd_read_order.proofs.Asking.{form_refused, places_few_lem, then_set}
use Rattle.cmd_read_order.proofs.order_setting.Goals as goal

pub returns-in_err-n : goal.returns-in_err-n
returns-in_err-n c =
    let p = err_from_is_err_and c.from_residual.result c.from_residual.ensures.1 in
    rw (p.1, p.2) (form_refused _ _ _ c.in_err-n.ensures)

pub slice_bounds-order-end : goal.slice_bounds-order-end
slice_bounds-order-end c = omega (arith, places_few_lem _ [] c.in_ok-n.ensures, c.read_order.auto.order)

pub slice_bounds-set-end : goal.slice_bounds-set-end
slice_bounds-set-end c = sym (length-take-le _ c.read_order.new.order (omega (arith, places_few_lem _ [] c.in_ok-n.ensures, c.read_order.auto.order)))

pub set-requires : goal.set-requires
set-requires c = omega (arith, length-take c.in_ok-n.n c.read_order.new.order, places_few_lem _ [] c.in_ok-n.ensures)

pub returns : goal.returns
returns c = then_set _ _ c.in_ok-n.ensures c.set.ensures
