-- A mask of all ones or all zeros takes one of the two.
-- Assumes nothing.
use mathlib.Core.Path.{refl}
use Rattle.select.proofs.Numbers.{blend}
use Rattle.select.proofs.pick.Goals as goal

pub returns : goal.returns
returns c = rw c.mask-m.ensures (blend 16 65535 refl c.args.s c.args.a c.args.b c.requires c.ranges.a.fits c.ranges.b.fits)
