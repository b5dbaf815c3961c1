-- `cmd_draw::put_order` meets its contract.
-- Assumes nothing.
use native.Mathlib.Omega.{arith}
use Rattle.cmd_draw.proofs.Entering.{count_few, order_put}
use Rattle.cmd_draw.proofs.put_order.Goals as goal

pub put_row-requires : goal.put_row-requires
put_row-requires c =
    (omega (arith, c.requires.0, count_few c.args.order.now (omega arith) c.put_number-at.ensures, c.put_number-at.auto), c.requires.1)

pub returns : goal.returns
returns c = order_put c.args.order.now (omega arith) c.put_number-at.ensures c.put_row.ensures
