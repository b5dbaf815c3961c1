-- The paper's case.
-- Assumes nothing.
use Rattle.wirings.specs.Nets.{wiring_of}
use Rattle.permutation.proofs.Permutations.{passes_permutation}
use Rattle.setting_order.proofs.setting_of_order.Goals as goal

pub setting_of_order_in-requires : goal.setting_of_order_in-requires
setting_of_order_in-requires c = (c.requires.0, passes_permutation c.args.order.now c.requires.1, c.requires.2)

pub returns : goal.returns
unfolding wiring_of
returns c = c.setting_of_order_in.ensures
