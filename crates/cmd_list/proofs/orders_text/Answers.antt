-- `cmd_list::orders_text` meets its contract.
-- Assumes nothing.
use native.Mathlib.Omega.{arith}
use Rattle.cmd_text.proofs.Lines.{refused_fits}
use Rattle.cmd_list.proofs.Asking.{prints, text_of_lem, short_length}
use Rattle.cmd_list.proofs.orders_text.Goals as goal

pub put_orders-requires : goal.put_orders-requires
put_orders-requires c = omega (arith, short_length _ c.in-Ok.ensures.0, c.in-Ok.ensures.1)

pub returns-in-Ok : goal.returns-in-Ok
returns-in-Ok c = prints _ (text_of_lem _ c.in-Ok.ensures.0) (rw c.in-Ok.ensures.1 at c.put_orders.ensures)

pub put_refusal-requires : goal.put_refusal-requires
put_refusal-requires c = rw c.into.ensures (omega (arith, refused_fits c.in-Err.refused (omega arith), c.well_formed))

pub returns-in-Err : goal.returns-in-Err
returns-in-Err c = let P = rw c.into.ensures at c.put_refusal.ensures in prints _ (text_of_lem _ c.in-Err.ensures) P
