use mathlib.Core.Path.{refl}
use Rattle.bits.proofs.Bytes.{flag_more}
use Rattle.answers.specs.Questions.{first_bad_from}
use Rattle.bits.proofs.some_bad.Goals as goal

pub loop-bit-init : goal.loop-bit-init
unfolding first_bad_from
loop-bit-init c = refl

pub loop-bit-preserved : goal.loop-bit-preserved
loop-bit-preserved c = rw c.from-bad.ensures (flag_more c.args.bits.now c.loop-bit.bit-index c.loop-bit.bad c.loop-bit.invariant)
