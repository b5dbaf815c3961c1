-- The paper's case.
-- Assumes nothing.
use Rattle.wirings.specs.Nets.{wiring_of}
use Rattle.apply.specs.Calls.{inverse_call}
use Rattle.apply.proofs.apply_inverse.Goals as goal

pub returns : goal.returns
unfolding wiring_of inverse_call
returns c = c.apply_inverse_in.ensures
