-- The multiples of f that are at most r, counted: at the end they are all that go into r.
-- Assumes nothing.
use mathlib.Core.Path.{◌∙◌}
use mathlib.Core.Bool.{not}
use Prim.Native.Nat.{◌*◌}
use native.Mathlib.Omega.{arith}
use lib.Dec.{ltb}
use Rattle.select.proofs.Numbers.{digit_small}
use Rattle.orders_listed.proofs.Digits.{multiple_small, reached_more, reached_all, some_factor}
use Rattle.orders_listed.proofs.first_digit.Goals as goal

pub loop-i-init : goal.loop-i-init
loop-i-init c = omega arith

pub overflow_mul-i : goal.overflow_mul-i
overflow_mul-i c = omega (arith, multiple_small c.loop-i.i c.args.f (omega arith) c.requires.1)

pub at_least-d-requires : goal.at_least-d-requires
at_least-d-requires c = (
  omega (arith, c.requires.2, multiple_small c.args.n c.args.f c.requires.0 c.requires.1),
  omega (arith, multiple_small c.loop-i.i c.args.f (omega arith) c.requires.1),
)

pub overflow_add-d : goal.overflow_add-d
overflow_add-d c = let a = c.args in
    omega (arith, c.at_least-d.ensures, digit_small (not (ltb a.r (c.loop-i.i * a.f))), c.loop-i.invariant)

pub loop-i-preserved : goal.loop-i-preserved
loop-i-preserved c = let l = c.loop-i in
    let f = some_factor c.args.r c.args.n c.args.f c.requires.2 in
    rw (l.invariant, c.at_least-d.ensures) (reached_more c.args.r c.args.f l.i f (omega arith))

pub returns : goal.returns
returns c = let l = c.loop-i in
    let f = some_factor c.args.r c.args.n c.args.f c.requires.2 in
    l.invariant ∙ reached_all c.args.r c.args.f l.i f (omega arith) c.args.n c.loop-i-test.false c.requires.2
