-- The paper's case.
-- Assumes nothing.
use Rattle.wirings.specs.Nets.{wiring_of}
use Rattle.setting_order.proofs.order_of_setting.Goals as goal

pub returns : goal.returns
unfolding wiring_of
returns c = c.order_of_setting_in.ensures
