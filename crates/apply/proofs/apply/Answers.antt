-- The paper's case.
-- Assumes nothing.
use Rattle.wirings.specs.Nets.{wiring_of}
use Rattle.apply.specs.Calls.{apply_call}
use Rattle.apply.proofs.apply.Goals as goal

pub returns : goal.returns
unfolding wiring_of apply_call
returns c = c.apply_in.ensures
