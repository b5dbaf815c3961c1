-- `counts::digits` meets its contract: the leading zeros and the digits of x make 32.
-- Assumes nothing.
use native.Mathlib.Omega.{arith}
use Rattle.counts.proofs.DigitCount.{L_leading}
use Rattle.counts.proofs.digits.Goals as goal

pub overflow_sub-x : goal.overflow_sub-x
overflow_sub-x c = omega (arith, L_leading 32 c.args.x (omega arith))

pub returns : goal.returns
returns c = omega (arith, L_leading 32 c.args.x (omega arith))
