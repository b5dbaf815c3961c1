-- `counts::switches_by_formula` meets its contract: the formula holds for every n, and no step leaves 64 bits.
-- Assumes nothing.
use mathlib.Core.Path.{sym}
use native.Mathlib.Omega.{arith}
use Rattle.counts.proofs.Rule.{W_none}
use Rattle.counts.proofs.Bounds.{In64, W_in_64}
use Rattle.counts.proofs.switches_by_formula.Goals as goal
use Rattle.counts.proofs.switches_by_formula.Goals.{After-from}

told : (c : After-from) → In64 c.args.n c.digits-l.result
told c = W_in_64 c.args.n c.digits-l.result c.digits-l.ensures (omega arith) (omega arith)

pub returns-then-n-eq0 : goal.returns-then-n-eq0
returns-then-n-eq0 c = sym (W_none c.args.n (omega arith))

pub overflow_mul-result : goal.overflow_mul-result
overflow_mul-result c = rw c.from.ensures (omega (arith, (told c).product))

pub overflow_add-result : goal.overflow_add-result
overflow_add-result c = rw c.from.ensures (omega (arith, (told c).product))

pub overflow_shl-result : goal.overflow_shl-result
overflow_shl-result c = omega (arith, (told c).digits)

pub overflow_sub-result : goal.overflow_sub-result
overflow_sub-result c = rw c.from.ensures (told c).room

pub returns : goal.returns
returns c = rw c.from.ensures (told c).count
