-- `tally::times` meets its contract.
-- Assumes nothing.
use Rattle.std.proofs.Common.{◌*◌, ◌≤◌, mul-le-mul, arith, le-ltb, lt-ltb}
use Rattle.tally.proofs.times.Goals as goal

pub returns-then-n-gt1024 : goal.returns-then-n-gt1024
returns-then-n-gt1024 c = (omega arith, rw (lt-ltb _ _ c.if-n-gt1024.true))

pub returns-then-width-gt256 : goal.returns-then-width-gt256
returns-then-width-gt256 c = (omega arith, rw (le-ltb _ _ c.if-n-gt1024.false, lt-ltb _ _ c.if-width-gt256.true))

pub overflow_mul-result : goal.overflow_mul-result
overflow_mul-result c = let q : c.args.n * c.args.width ≤ 1024 * 256 = mul-le-mul c.if-n-gt1024.false c.if-width-gt256.false in
    omega arith

pub returns : goal.returns
returns c = (mul-le-mul c.if-n-gt1024.false c.if-width-gt256.false, rw (le-ltb _ _ c.if-n-gt1024.false, le-ltb _ _ c.if-width-gt256.false))
