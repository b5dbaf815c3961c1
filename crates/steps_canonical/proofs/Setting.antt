-- The setting that the setter leaves for an order is the canonical one, and so has W bits.
-- Assumes nothing.
use mathlib.Core.Path.{◌≡◌}
use mathlib.Core.List.{List}
use Prim.Native.Nat.{ℕ}
use lib.ListN.{length}
use Rattle.counts.specs.Counts.{W}
use Rattle.network.specs.Wiring.{Wiring, Lawful}
use Rattle.network.specs.Network.{network}
use Rattle.permutation.specs.Permutations.{IsPermutation}
use Rattle.canonical.specs.Rule.{Canonical}
use Rattle.canonical.proofs.Only.{canonical_length}
use Rattle.steps.specs.Setting.{setting_for}
use Rattle.steps_canonical.proofs.Whole.{setting_canonical}

module _ {w : Wiring} (L : Lawful w) (n : ℕ) (order : List ℕ) (O : IsPermutation n order) where
  pub setting_house : Canonical w (network n) order (setting_for w order)
  setting_house = rw O.whole (setting_canonical L n order O)

  pub setting-length : length (setting_for w order) ≡ W n
  setting-length = canonical_length w n order (setting_for w order) setting_house
