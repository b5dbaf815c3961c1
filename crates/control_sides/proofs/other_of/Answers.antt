-- The product with the carry is 2k or 0; or the place before or behind.
-- Assumes nothing.
use Rattle.wirings.specs.Nets.{wiring_of}
use Rattle.control_sides.proofs.Pairs.{pairs, neighbours}
use Rattle.control_sides.proofs.other_of.Goals as goal

pub returns-in-Paper : goal.returns-in-Paper
unfolding wiring_of
returns-in-Paper c = let a = c.args in rw (c.in-Paper.is, c.at_least.ensures) (pairs a.k a.p).across

pub returns-in-Neighbour : goal.returns-in-Neighbour
unfolding wiring_of
returns-in-Neighbour c = let a = c.args in rw c.in-Neighbour.is (neighbours a.k a.p).across
