-- What the output switches leave.
-- Assumes nothing: these are definitions.
use Rattle.std.specs.Prelude.{◌≡◌, false, List, ℕ, ◌+◌, ◌%◌, get_or}
use Rattle.network.specs.Network.{down}
use Rattle.steps.specs.Sweeps.{each, act}
use Rattle.wirings.specs.declared.Net.{Net}
use Rattle.wirings.specs.Nets.{place_of, side_of}

-- the first part of step 6: the output bits from b on, and what their switches did
pub record Switched (net : Net) (b : ℕ) (values trails bits values' trails' bits' : List ℕ) : Type 0 where
  pub bits_are : bits' ≡ each (λ i. b + i) (down net.size) (λ i x. get_or trails (place_of net (side_of net (i, false))) 0 % 2) bits
  pub values_are : values' ≡ act (λ p. place_of net (side_of net p)) bits' b (down net.size) values
  pub trails_are : trails' ≡ act (λ p. place_of net (side_of net p)) bits' b (down net.size) trails
