-- `capi::lomuveran_neighbour_apply_inverse` meets its contract.
-- Assumes nothing.
use Rattle.wirings.specs.Nets.{wiring_of}
use Rattle.capi.proofs.lomuveran_neighbour_apply_inverse.Goals as goal

pub returns : goal.returns
unfolding wiring_of
returns c = rw c.into.ensures c.apply_inverse_in.ensures
