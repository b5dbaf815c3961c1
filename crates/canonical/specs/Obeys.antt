-- The house rule alone (01, 'The house setting'): a setting that obeys it in every network, whatever order it carries.
-- Assumes nothing: these are definitions.
use Rattle.std.specs.Prelude.{◌≡◌, true, false, List, [], ◌++◌, ℕ, ◌-◌, length}
use Rattle.bits.specs.Bits.{Bits}
use Rattle.counts.specs.Counts.{up}
use Rattle.network.specs.Wiring.{Wiring}
use Rattle.network.specs.Network.{Network, wires, split, down}
use Rattle.canonical.specs.Rule.{LowestStraight, order_of_half}

-- the bits of a network in their sequence, with the house rule for its input bits; the halves obey it in their own orders
pub record ObeysWith (w : Wiring) (m : ℕ) (Top Bottom : List ℕ → List ℕ → Type 0) (o bits : List ℕ) : Type 0 where
  pub input_bits : List ℕ
  pub top_bits : List ℕ
  pub bottom_bits : List ℕ
  pub output_bits : List ℕ
  pub in_sequence : bits ≡ input_bits ++ (top_bits ++ (bottom_bits ++ output_bits))
  pub input_count : length input_bits ≡ up m - 1
  pub output_count : length output_bits ≡ down m
  pub input_are_bits : Bits input_bits
  pub output_are_bits : Bits output_bits
  pub lowest_straight : LowestStraight w (up m) o input_bits
  pub in_top : Top (order_of_half w (up m) o input_bits false (up m)) top_bits
  pub in_bottom : Bottom (order_of_half w (up m) o input_bits true (down m)) bottom_bits

-- the house rule in every network
unfoldable pub Obeys : Wiring → Network → List ℕ → List ℕ → Type 0
Obeys w wires o bits = bits ≡ []
Obeys w (split m top bottom) o bits = ObeysWith w m (Obeys w top) (Obeys w bottom) o bits
