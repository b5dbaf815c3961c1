use mathlib.Core.Path.{◌≡◌}
use Rattle.answers.specs.Questions.{first_bad}
use Rattle.bits.specs.Bits.{is_bit, unequal}
use Rattle.bits.proofs.some_bad.Given as goal

abbrev pub invariant-loop-bit : goal.invariant-loop-bit
invariant-loop-bit l = l.bad ≡ unequal (first_bad (is_bit l.bits) l.bit-index) l.bit-index
