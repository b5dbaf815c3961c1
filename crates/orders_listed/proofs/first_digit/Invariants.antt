-- The multiples of f that are at most r, counted: at the end they are all that go into r.
-- Assumes nothing.
use mathlib.Core.Path.{◌≡◌}
use Rattle.orders_listed.proofs.Digits.{reached}
use Rattle.orders_listed.proofs.first_digit.Given as goal

abbrev pub invariant-loop-i : goal.invariant-loop-i
invariant-loop-i l = l.d ≡ reached l.r l.f l.i
