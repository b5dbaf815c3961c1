-- What the setter's table has to be before all steps, and before a network's.
-- Assumes nothing: these are definitions.
use Rattle.std.specs.Prelude.{◌≡◌, List, ℕ, ◌+◌, ◌≤◌, ◌<◌, length, get_or}
use Rattle.counts.specs.Counts.{up, W}
use Rattle.permutation.specs.Permutations.{IsPermutation}
use Rattle.steps.specs.State.{State, Subnetwork}

-- the whole table: it holds the order, with no pair marked and with room; the bits and trails, and f, c, g, s, are any
pub record Begins (n : ℕ) (o : List ℕ) (x : State) : Type 0 where
  pub values_room : n ≤ length x.values
  pub trails_room : n ≤ length x.trails
  pub marks_room : up n ≤ length x.marks
  pub bits_count : length x.bits ≡ W n
  pub values_are : (i : ℕ) → i < n → get_or x.values i 0 ≡ get_or o i 0
  pub unmarked : (i : ℕ) → get_or x.marks i 0 ≡ 0

-- there is room for the network's places, pairs and bits; no pair is marked; its places hold the order
pub record Holding (N : Subnetwork) (o : List ℕ) (x : State) : Type 0 where
  pub values_room : (i : ℕ) → i < N.size → N.place i < length x.values
  pub trails_room : (i : ℕ) → i < N.size → N.place i < length x.trails
  pub marks_room : up N.size ≤ length x.marks
  pub bits_room : N.bit + W N.size ≤ length x.bits
  pub unmarked : (i : ℕ) → get_or x.marks i 0 ≡ 0
  pub order : (i : ℕ) → i < N.size → get_or x.values (N.place i) 0 ≡ get_or o i 0

-- it holds some order
pub record Ordered (N : Subnetwork) (x : State) : Type 0 where
  pub order : List ℕ
  pub permutation : IsPermutation N.size order
  pub holding : Holding N order x
