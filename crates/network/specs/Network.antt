-- The network of m places (01, 'The network').
-- Assumes nothing: these are definitions.
use Rattle.std.specs.Prelude.{true, false, ℕ, zero, suc, ◌+◌, ◌-◌, ltb}
use Rattle.counts.specs.Counts.{up}

-- k = m/2 rounded up is `up m` (crate counts); the bottom network has the rest
abbrev pub down : ℕ → ℕ
down m = m - up m

-- fewer than 2 places: wires, no switch; m places: input switches, a top and a bottom network, output switches
pub data Network : Type 0 where
  wires : Network
  split : ℕ → Network → Network → Network

-- the network of m places, halved at most d times; m is often enough
unfoldable pub network_in : ℕ → ℕ → Network
network_in zero m = wires
network_in (suc d) m = elim (ltb m 2) [ true ↦ wires | false ↦ split m (network_in d (up m)) (network_in d (down m)) ]

unfoldable pub network : ℕ → Network
network m = network_in m m

-- its switches: k - 1 input switches, the top's, the bottom's, m - k output switches
unfoldable pub switch_count : Network → ℕ
switch_count wires = 0
switch_count (split m top bottom) = (up m - 1) + (switch_count top + (switch_count bottom + down m))
