-- k is regained under the bit's mask; or the value doubled and the bit added.
-- Assumes nothing.
use native.Mathlib.Omega.{arith}
use Rattle.wirings.specs.Nets.{wiring_of}
use Rattle.control_sides.proofs.Pairs.{regained, doubled}
use Rattle.control_sides.proofs.value_of.Goals as goal

pub returns-in-Paper : goal.returns-in-Paper
unfolding wiring_of
returns-in-Paper c = let a = c.args in
    let q = regained a.k a.v a.s c.mask.result c.mask.ensures c.requires.2 (omega (arith, c.requires.0)) in
    rw c.in-Paper.is q.1

pub returns-in-Neighbour : goal.returns-in-Neighbour
unfolding wiring_of
returns-in-Neighbour c = let a = c.args in rw c.in-Neighbour.is (doubled a.k a.v a.s c.requires.2)
