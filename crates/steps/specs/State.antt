-- The setter's hidden table (01, 'Steps of the setter, and the log'), and where a network lies in it.
-- Assumes nothing: these are definitions.
use Rattle.std.specs.Prelude.{List, ℕ, ◌+◌, ◌-◌, length, replicate}
use Rattle.counts.specs.Counts.{up, W}

-- a value and a trail for each place, marks on pairs, the numbers f, c, g, s, and the setting's bits.
-- A trail of bits is a number whose lowest binary digit is its last bit; the empty trail is 0. A mark is 1, no mark 0.
pub record State : Type 0 where
  pub values : List ℕ
  pub trails : List ℕ
  pub marks : List ℕ
  pub bits : List ℕ
  pub f : ℕ
  pub c : ℕ
  pub g : ℕ
  pub s : ℕ

-- a network within the whole: where its places lie, how many they are, and the position of its first bit
pub record Subnetwork : Type 0 where
  pub place : ℕ → ℕ
  pub size : ℕ
  pub bit : ℕ

-- its input bits are the first k - 1 of its bits, its output bits the last m - k
abbrev pub output_bit : Subnetwork → ℕ
output_bit N = N.bit + (W N.size - (N.size - up N.size))

-- the table starts as the order, bits 0, trails and marks empty; nothing reads f, c, g, s before step 1 sets them
abbrev pub start : List ℕ → State
start order =
    record {
      values = order;
      trails = replicate (length order) 0;
      marks = replicate (up (length order)) 0;
      bits = replicate (W (length order)) 0;
      f = 0;
      c = 0;
      g = 0;
      s = 0;
    }
