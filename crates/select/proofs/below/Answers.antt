-- The other bit than that of `at_least`.
-- Assumes nothing.
use native.Mathlib.Omega.{arith}
use mathlib.Core.Path.{refl}
use mathlib.Core.Bool.{not}
use lib.Dec.{ltb}
use Rattle.select.proofs.Numbers.{digit_small, other-digit}
use Rattle.select.proofs.below.Goals as goal

pub overflow_sub-result : goal.overflow_sub-result
overflow_sub-result c = rw c.at_least.ensures (omega (arith, digit_small (not (ltb c.args.a c.args.b))))

pub returns : goal.returns
returns c = let b = ltb c.args.a c.args.b in rw (c.at_least.ensures, other-digit b) (refl, digit_small b)
