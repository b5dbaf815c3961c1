-- Where the places of a network lie in the whole, and those of its halves.
-- Assumes nothing: these are definitions.
use Rattle.std.specs.Prelude.{◌≡◌, Bool, true, false, cond, ℕ, ◌+◌, ◌*◌, ◌≤◌, ◌<◌}
use Rattle.counts.specs.Counts.{up}
use Rattle.network.specs.Wiring.{Wiring, Side, paper, neighbour}
use Rattle.network.specs.Network.{down}
use Rattle.wirings.specs.declared.Topology.{Topology}
use Rattle.wirings.specs.declared.Topology.TheVariants.{Paper, Neighbour}
use Rattle.wirings.specs.declared.Net.{Net}

unfoldable pub wiring_of : Topology → Wiring
wiring_of Paper = paper
wiring_of Neighbour = neighbour

-- where places lie `apart`: from a pair to the next, and from a place of k pairs to the pair's other
unfoldable pub step_of : Topology → ℕ → ℕ
step_of Paper apart = apart
step_of Neighbour apart = 2 * apart

unfoldable pub gap_of : Topology → ℕ → ℕ → ℕ
gap_of Paper k apart = k * apart
gap_of Neighbour k apart = apart

-- a network by its numbers; all n places
abbrev pub net_of : Topology → ℕ → ℕ → ℕ → Net
net_of t o m apart = record { topology = t; start = o; size = m; apart = apart }

abbrev pub whole_of : Topology → ℕ → Net
whole_of t n = net_of t 0 n 1

-- place i of a network, counted in the whole
abbrev pub place_of : Net → ℕ → ℕ
place_of net = λ i. net.start + i * net.apart

-- the place of a side of one of its pairs, counted in the network
abbrev pub side_of : Net → Side → ℕ
side_of net p = (wiring_of net.topology).enc (up net.size) p

-- its places are among the first n of the whole
pub record Inside (n : ℕ) (net : Net) : Type 0 where
  pub apart : 1 ≤ net.apart
  pub lies : (i : ℕ) → i < net.size → place_of net i < n

-- pair i lies i steps from the start, its other place a gap further
pub record Spaced (net : Net) (step gap : ℕ) : Type 0 where
  pub lower : (i : ℕ) → side_of net (i, false) * net.apart ≡ i * step
  pub upper : (i : ℕ) → side_of net (i, true) * net.apart ≡ gap + i * step
  pub ahead : 1 ≤ step
  pub beside : 1 ≤ gap

-- the sides of pairs by steps from the place o, and the gap
abbrev pub stepped : ℕ → ℕ → ℕ → Side → ℕ
stepped o step gap p = cond p.1 (o + p.0 * step + gap) (o + p.0 * step)

-- r is the half of a network that has the sides t of its pairs (false: the top)
pub record IsHalf (net : Net) (t : Bool) (r : Net) : Type 0 where
  pub wiring : r.topology ≡ net.topology
  pub size : r.size ≡ cond t (down net.size) (up net.size)
  pub places : ◌≡◌ {A = ℕ → ℕ} (place_of r) (λ i. place_of net (side_of net (i, t)))
  pub apart : 1 ≤ r.apart
