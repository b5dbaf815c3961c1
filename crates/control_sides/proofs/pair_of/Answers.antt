-- The product with the carry is k or 0; or the half.
-- Assumes nothing.
use Rattle.wirings.specs.Nets.{wiring_of}
use Rattle.control_sides.proofs.Pairs.{pairs}
use Rattle.control_sides.proofs.pair_of.Goals as goal

pub returns-in-Paper : goal.returns-in-Paper
unfolding wiring_of
returns-in-Paper c = let a = c.args in rw (c.in-Paper.is, c.at_least.ensures) (pairs a.k a.p).pair

pub returns-in-Neighbour : goal.returns-in-Neighbour
unfolding wiring_of
returns-in-Neighbour c = rw c.in-Neighbour.is
