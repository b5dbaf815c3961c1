-- One entry, and the order of the others; the number of places falls at each call.
-- Assumes nothing.
use lib.ListN.{length}
use Rattle.orders_listed.proofs.+write_order.Given as goal

abbrev pub decreases-write_order : goal.decreases-write_order
decreases-write_order l = length l.order.now
