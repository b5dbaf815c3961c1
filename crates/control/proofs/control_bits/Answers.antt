-- The paper's case.
-- Assumes nothing.
use Rattle.wirings.specs.Nets.{wiring_of}
use Rattle.control.specs.Calls.{set_call}
use Rattle.control.proofs.control_bits.Goals as goal

pub returns : goal.returns
unfolding wiring_of set_call
returns c = c.control_bits_in.ensures
