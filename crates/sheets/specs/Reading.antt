-- The bits in numbers.
-- Assumes nothing: these are definitions.
use Rattle.std.specs.Prelude.{Bool, true, ◌&&◌, List, [], ◌∷◌, ◌++◌, ℕ, zero, suc, ◌/◌, ◌%◌, eqb}

-- the lowest c bits of a number, the lowest first
unfoldable pub low_bits : ℕ → ℕ → List ℕ
low_bits zero v = []
low_bits (suc c) v = v % 2 ∷ low_bits c (v / 2)

-- fourteen bits of each number
unfoldable pub bits_in : List ℕ → List ℕ
bits_in [] = []
bits_in (v ∷ vs) = low_bits 14 v ++ bits_in vs

unfoldable pub all_zero : List ℕ → Bool
all_zero [] = true
all_zero (b ∷ bs) = eqb b 0 && all_zero bs
