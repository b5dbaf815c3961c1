-- Assumes nothing.
use mathlib.Core.Path.{refl}
use Rattle.apply.proofs.Whole.{lent, apply_settles}
use Rattle.apply.proofs.apply_in.Goals as goal

pub run-requires : goal.run-requires
run-requires c = let a = c.args in
    lent a.t a.n a.width a.blocks.now a.bits.now a.log.now c.in_ok-ask.ensures

pub returns : goal.returns
returns c = let a = c.args in
    apply_settles a.t a.n a.width a.blocks.now a.bits.now a.log.now c.in_ok-ask.ensures
    refl c.run.ensures.0 c.run.auto.blocks c.run.ensures.1
