-- Assumes nothing.
use mathlib.Core.Path.{refl}
use Rattle.apply.proofs.Whole.{lent, inverse_settles}
use Rattle.apply.proofs.apply_inverse_in.Goals as goal

pub run_back-requires : goal.run_back-requires
run_back-requires c = let a = c.args in
    lent a.t a.n a.width a.blocks.now a.bits.now a.log.now c.in_ok-ask.ensures

pub returns : goal.returns
returns c = let a = c.args in
    inverse_settles a.t a.n a.width a.blocks.now a.bits.now a.log.now c.in_ok-ask.ensures
    refl c.run_back.ensures.0 c.run_back.auto.blocks c.run_back.ensures.1
