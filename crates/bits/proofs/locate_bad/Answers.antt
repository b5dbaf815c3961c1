use mathlib.Core.Path.{refl}
use lib.Dec.{ltb, eqb}
use lib.ListN.{get_or}
use Rattle.answers.proofs.Questions.{bad_within}
use Rattle.answers.proofs.Sweeps.{sweep_counts, sweep_fits}
use native.Mathlib.Omega.{arith}
use Rattle.answers.specs.Questions.{first_bad_from}
use Rattle.bits.specs.Bits.{is_bit}
use Rattle.bits.proofs.locate_bad.Goals as goal

pub loop-i-init : goal.loop-i-init
unfolding first_bad_from
loop-i-init c = refl

pub overflow_add-low : goal.overflow_add-low
overflow_add-low c =
    rw (c.from.ensures, c.from-in-loop-i.ensures)
    (omega (arith, sweep_fits (ltb (get_or c.args.bits.now c.loop-i.i 0) 2) (eqb c.loop-i.low c.loop-i.i), bad_within (is_bit c.args.bits.now) c.loop-i.i))

pub loop-i-preserved : goal.loop-i-preserved
loop-i-preserved c = rw (c.from.ensures, c.from-in-loop-i.ensures) (sweep_counts (is_bit c.args.bits.now) c.loop-i.i c.loop-i.low c.loop-i.invariant)
