-- `shuffle_fair::limit_of` meets its contract.
-- Assumes nothing.
use native.Mathlib.Omega.{arith}
use Rattle.shuffle_fair.proofs.Fair.{limit_within}
use Rattle.shuffle_fair.proofs.limit_of.Goals as goal

pub overflow_mul-result : goal.overflow_mul-result
overflow_mul-result c = record { fits = omega (arith, limit_within c.args.d) }
