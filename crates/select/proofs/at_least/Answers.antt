-- The carry of the sum tells whether a is b or more.
-- Assumes nothing.
use Rattle.select.proofs.Numbers.{carry}
use Rattle.select.proofs.at_least.Goals as goal

pub returns : goal.returns
returns c = carry c.args.a c.args.b c.requires.0 c.requires.1
