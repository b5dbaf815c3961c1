-- The sheet of a setting (01, 'Sheet').
-- Assumes nothing: these are definitions.
use Rattle.std.specs.Prelude.{List, [], ◌∷◌, ℕ, zero, suc, ◌+◌, ◌*◌, ◌/◌, length, take, drop}
use Rattle.numbers.specs.Numbers.{sevens}
use Rattle.rows.specs.Rows.{numbers_bytes}

-- the number of some bits, the first bit lowest
unfoldable pub bits_number : List ℕ → ℕ
bits_number [] = 0
bits_number (b ∷ bs) = b + 2 * bits_number bs

-- how many numbers w bits take, fourteen to a number
abbrev pub numbers_for : ℕ → ℕ
numbers_for w = (w + 13) / 14

-- the bits in fourteens, as k numbers. Past the last bit there is nothing: the last number is filled with zeros
unfoldable pub fourteens : ℕ → List ℕ → List ℕ
fourteens zero bits = []
fourteens (suc k) bits = bits_number (take 14 bits) ∷ fourteens k (drop 14 bits)

-- the form number 1, then n, then the bits in fourteens
unfoldable pub sheet : ℕ → List ℕ → List ℕ
sheet n bits = numbers_bytes sevens (1 ∷ n ∷ fourteens (numbers_for (length bits)) bits)

-- how many bytes of a sheet a program reads: the longest sheet has one less, so that a surplus byte shows
abbrev pub sheet_room : ℕ
sheet_room = 1321
