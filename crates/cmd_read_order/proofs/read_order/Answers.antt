-- `cmd_read_order::read_order` meets its contract.
-- Assumes nothing.
use Rattle.std.proofs.lemmas.Result.{err_from_is_err_and}
use Rattle.numbers.proofs.Numbers.{reads}
use Rattle.cmd_read_order.proofs.Asking.{count_stops, count_large, row_stop, surplus, order-done}
use Rattle.cmd_read_order.proofs.read_order.Goals as goal

pub returns-in_err-n : goal.returns-in_err-n
returns-in_err-n c =
    let p = err_from_is_err_and c.from_residual.result c.from_residual.ensures.1 in
    rw (p.1, p.2) (count_stops _ _ c.in_err-n.ensures)

pub returns-then-n-gt-MOST_PLACES : goal.returns-then-n-gt-MOST_PLACES
returns-then-n-gt-MOST_PLACES c = rw c.of.ensures (count_large _ (reads _ _ _ c.in_ok-n.ensures) c.if-n-gt-MOST_PLACES.true)

pub returns-in_err-end : goal.returns-in_err-end
returns-in_err-end c =
    let p = err_from_is_err_and c.from_residual-in_err-end.result c.from_residual-in_err-end.ensures.1 in
    rw (p.1, p.2) (row_stop _ (reads _ _ _ c.in_ok-n.ensures) c.if-n-gt-MOST_PLACES.false _ c.in_err-end.ensures)

pub returns-then-end-input : goal.returns-then-end-input
returns-then-end-input c =
    rw c.at.ensures (surplus _ (reads _ _ _ c.in_ok-n.ensures) c.if-n-gt-MOST_PLACES.false _ c.in_ok-end.ensures c.if-end-input.true)

pub returns : goal.returns
returns c = order-done _ (reads _ _ _ c.in_ok-n.ensures) c.if-n-gt-MOST_PLACES.false _ c.in_ok-end.ensures c.if-end-input.false
