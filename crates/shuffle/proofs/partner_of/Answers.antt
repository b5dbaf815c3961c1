-- `shuffle::partner_of` meets its contract.
-- Assumes nothing.
use mathlib.Core.Path.{refl}
use native.Mathlib.Omega.{arith}
use Rattle.shuffle.proofs.Steps.{partner-below, sum_fits}
use Rattle.shuffle.proofs.partner_of.Goals as goal

pub overflow_add-result : goal.overflow_add-result
overflow_add-result c = record { fits = sum_fits _ _ _ (omega arith) (omega arith) }

pub returns : goal.returns
returns c = (refl, partner-below _ _ _ (omega arith))
