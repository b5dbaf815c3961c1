-- Bounds on the numbers of a table, the places that it has, and what the sweeps of steps 5 and 6 leave.
-- Assumes nothing: these are definitions.
use Rattle.std.specs.Prelude.{◌≡◌, List, ℕ, ◌+◌, ◌*◌, ◌/◌, ◌%◌, ◌≤◌, ◌<◌, eqb, length, get_or}
use Rattle.steps.specs.Sweeps.{each}
use Rattle.steps.specs.Steps.{digit}
use Rattle.wirings.specs.declared.Net.{Net}
use Rattle.wirings.specs.Nets.{wiring_of, place_of, Inside}

-- every number of a table is below b (past its end stands 0)
unfoldable pub Below : ℕ → List ℕ → Type 0
Below b xs = (i : ℕ) → get_or xs i 0 < b

-- each of the m numbers that lie where `place` says is below b
unfoldable pub Within : (ℕ → ℕ) → ℕ → ℕ → List ℕ → Type 0
Within place m b xs = (i : ℕ) → i < m → get_or xs (place i) 0 < b

-- a table of at most 1,024 places has those of the network
pub record Covers (net : Net) (xs : List ℕ) : Type 0 where
  pub inside : Inside (length xs) net
  pub short : length xs ≤ 1024

-- and has both places of n pairs that lie `step` from each other, from o on
pub record Reaches (o step gap n : ℕ) (xs : List ℕ) : Type 0 where
  pub lies : (i : ℕ) → i < n → o + i * step + gap < length xs
  pub short : length xs ≤ 1024

-- step 5 on the network's places: each value keeps its pair of k, its trail gains its side
pub record Parted (net : Net) (k : ℕ) (values trails values' trails' : List ℕ) : Type 0 where
  pub values_are : values' ≡ each (place_of net) net.size (λ i v. ((wiring_of net.topology).dec k v).0) values
  pub trails_are : trails'
      ≡ each (place_of net) net.size (λ i t. t * 2 + digit ((wiring_of net.topology).dec k (get_or values (place_of net i) 0)).1) trails

-- step 6 on them: each value is again what it was, by the last bit of its trail, which its trail loses
pub record Joined (net : Net) (k : ℕ) (values trails values' trails' : List ℕ) : Type 0 where
  pub values_are : values'
      ≡ each (place_of net) net.size (λ i v. (wiring_of net.topology).enc k (v, eqb (get_or trails (place_of net i) 0 % 2) 1)) values
  pub trails_are : trails' ≡ each (place_of net) net.size (λ i t. t / 2) trails
