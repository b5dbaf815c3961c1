-- Places and values stay small in every wiring.
-- Assumes nothing.
use mathlib.Core.Bool.{false}
use Prim.Native.Nat.{ℕ, ◌≤◌, ◌<◌}
use native.Mathlib.Omega.{arith}
use native.Mathlib.Decide.{dec_lt}
use borrow.Author.Tests.{lt-ltb, le-ltb}
use Rattle.control_sides.proofs.Pairs.{neighbours}
use Rattle.network.specs.Wiring.{paper}
use Rattle.steps.specs.Steps.{other}
use Rattle.wirings.specs.declared.Topology.{Topology}
use Rattle.wirings.specs.declared.Topology.TheVariants.{Paper, Neighbour}
use Rattle.wirings.specs.Nets.{wiring_of}

pub other-below : (t : Topology) (k q : ℕ) → k ≤ 1024 → q < 32768 → other (wiring_of t) k q < 32768
unfolding wiring_of
other-below Paper k q h l = go (dec_lt q k)
  where
    go : Dec (q < k) → other paper k q < 32768
    go (yes t) = rw (lt-ltb q k t) (omega arith)
    go (no t) = rw (le-ltb q k (omega arith)) (omega arith)
other-below Neighbour k q h l = rw (← (neighbours k q).across) (omega arith)

pub first_below : (t : Topology) (k i : ℕ) → i ≤ 1024 → (wiring_of t).enc k (i, false) < 32768
unfolding wiring_of
first_below Paper k i h = omega arith
first_below Neighbour k i h = omega arith

pub pair_within : (t : Topology) (k q : ℕ) → ((wiring_of t).dec k q).0 ≤ q
unfolding wiring_of
pair_within Paper k q = go (dec_lt q k)
  where
    go : Dec (q < k) → (paper.dec k q).0 ≤ q
    go (yes l) = rw (lt-ltb q k l) (omega arith)
    go (no l) = rw (le-ltb q k (omega arith)) (omega arith)
pair_within Neighbour k q = omega arith
