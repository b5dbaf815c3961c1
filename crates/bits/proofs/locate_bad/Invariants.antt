use mathlib.Core.Path.{◌≡◌}
use Rattle.answers.specs.Questions.{first_bad}
use Rattle.bits.specs.Bits.{is_bit}
use Rattle.bits.proofs.locate_bad.Given as goal

abbrev pub invariant-loop-i : goal.invariant-loop-i
invariant-loop-i l = l.low ≡ first_bad (is_bit l.bits) l.i
