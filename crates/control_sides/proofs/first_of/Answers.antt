-- The pair's number, or twice it.
-- Assumes nothing.
use native.Mathlib.Omega.{arith}
use Rattle.wirings.specs.Nets.{wiring_of}
use Rattle.control_sides.proofs.first_of.Goals as goal

pub returns-in-Paper : goal.returns-in-Paper
unfolding wiring_of
returns-in-Paper c = rw c.in-Paper.is

pub returns-in-Neighbour : goal.returns-in-Neighbour
unfolding wiring_of
returns-in-Neighbour c = rw c.in-Neighbour.is (omega arith)
