-- `cmd_show::put_order` meets its contract.
-- Assumes nothing.
use native.Mathlib.Omega.{arith}
use Rattle.cmd_show.proofs.Showing.{order-line}
use Rattle.cmd_show.proofs.put_order.Goals as goal

pub put_text-requires : goal.put_text-requires
put_text-requires c =
    omega (arith, c.requires, c.put_text-a.ensures.place, c.put_order_text-b.ensures.1, c.put_order_text-b.auto, c.put_text-a.auto)

pub returns : goal.returns
returns c = order-line c.args.order.now c.requires c.put_text-a.ensures c.put_order_text-b.ensures c.put_text.ensures
