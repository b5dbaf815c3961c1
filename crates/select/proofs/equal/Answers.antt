-- Neither is below the other.
-- Assumes nothing.
use native.Mathlib.Omega.{arith}
use mathlib.Core.Bool.{not}
use Prim.Native.Nat.{◌*◌, ◌<◌}
use lib.Dec.{ltb}
use Rattle.select.proofs.Numbers.{both, product_small}
use Rattle.select.proofs.equal.Goals as goal

pub overflow_mul-result : goal.overflow_mul-result
overflow_mul-result c = let a = c.args in
    let e : c.at_least.result * c.at_least-2.result < 2 =
    rw (c.at_least.ensures, c.at_least-2.ensures) (product_small (not (ltb a.a a.b)) (not (ltb a.b a.a)))
    in
    omega (arith, e)

pub returns : goal.returns
returns c = rw (c.at_least.ensures, c.at_least-2.ensures) (both c.args.a c.args.b)
