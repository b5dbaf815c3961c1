-- Control bits as bytes (01, question 7).
-- Assumes nothing: these are definitions.
use Rattle.std.specs.Prelude.{Bool, cond, List, ℕ, ◌<◌, ltb, eqb, get_or}

-- the byte at i is 0 or 1
abbrev pub is_bit : List ℕ → ℕ → Bool
is_bit bits i = ltb (get_or bits i 0) 2

-- every byte is 0 or 1
unfoldable pub Bits : List ℕ → Type 0
Bits bits = (i : ℕ) → get_or bits i 0 < 2

-- 1 where two numbers differ, else 0
abbrev pub unequal : ℕ → ℕ → ℕ
unequal a b = cond (eqb a b) 0 1
