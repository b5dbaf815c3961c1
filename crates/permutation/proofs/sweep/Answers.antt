-- `permutation::sweep` meets its contract.
-- Assumes nothing.
use mathlib.Core.Bool.{◌&&◌}
use native.Mathlib.Omega.{arith}
use lib.Dec.{eqb}
use Rattle.permutation.proofs.Sweeps.{bit_small}
use Rattle.permutation.proofs.sweep.Goals as goal

pub overflow_add-result : goal.overflow_add-result
overflow_add-result c = record { fits = omega (arith, bit_small (c.args.good && eqb c.args.low c.args.i)) }
