-- The carry is the side; or the rest of the half.
-- Assumes nothing.
use Rattle.wirings.specs.Nets.{wiring_of}
use Rattle.control_sides.proofs.Pairs.{pairs, neighbours}
use Rattle.control_sides.proofs.side_of.Goals as goal

pub returns-in-Paper : goal.returns-in-Paper
unfolding wiring_of
returns-in-Paper c = let a = c.args in rw (c.in-Paper.is, c.at_least.ensures) (pairs a.k a.p).side

pub returns-in-Neighbour : goal.returns-in-Neighbour
unfolding wiring_of
returns-in-Neighbour c = let a = c.args in rw c.in-Neighbour.is (neighbours a.k a.p).side
