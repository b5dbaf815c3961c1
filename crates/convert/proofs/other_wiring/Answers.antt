-- The other case.
-- Assumes nothing.
use Rattle.convert.specs.Calls.{across}
use Rattle.convert.proofs.other_wiring.Goals as goal

pub returns-in-Paper : goal.returns-in-Paper
unfolding across
returns-in-Paper c = rw c.in-Paper.is

pub returns-in-Neighbour : goal.returns-in-Neighbour
unfolding across
returns-in-Neighbour c = rw c.in-Neighbour.is
