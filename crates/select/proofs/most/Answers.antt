-- The mask is made of the test.
-- Assumes nothing.
use mathlib.Core.Path.{◌∙◌}
use lib.Dec.{ltb}
use Rattle.select.proofs.Numbers.{digit_small, digit_is}
use Rattle.select.proofs.most.Goals as goal

pub pick-requires : goal.pick-requires
pick-requires c = rw c.less.ensures (digit_small (ltb c.args.a c.args.b))

pub returns : goal.returns
returns c = let a = c.args in
    c.pick.ensures ∙ rw (c.less.ensures, digit_is (ltb a.a a.b))
