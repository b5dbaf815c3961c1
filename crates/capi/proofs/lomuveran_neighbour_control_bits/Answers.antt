-- `capi::lomuveran_neighbour_control_bits` meets its contract.
-- Assumes nothing.
use Rattle.wirings.specs.Nets.{wiring_of}
use Rattle.capi.proofs.lomuveran_neighbour_control_bits.Goals as goal

pub returns : goal.returns
unfolding wiring_of
returns c = rw c.into.ensures c.control_bits_in.ensures
