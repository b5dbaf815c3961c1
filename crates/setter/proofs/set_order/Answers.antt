-- The paper's case.
-- Assumes nothing.
use Rattle.wirings.specs.Nets.{wiring_of}
use Rattle.setter.proofs.set_order.Goals as goal

pub returns : goal.returns
unfolding wiring_of
returns c = c.set_order_in.ensures
