-- A number as an argument of a program.
-- Assumes nothing: these are definitions.
use Rattle.std.specs.Prelude.{Bool, true, false, ◌&&◌, List, [], ◌∷◌, ◌≡◌, ℕ, ◌+◌, ◌-◌, ◌*◌, min, leb, Option, Some, None}
use Prim.Native.Char.{code}

-- larger numbers count as this one, which each question about a number of blocks or a width refuses
abbrev pub most : ℕ
most = 10000

abbrev pub is_digit : ℕ → Bool
is_digit b = leb (code "0") b && leb b (code "9")

-- digits behind a number v that was read already: each makes it ten times as much and adds itself
unfoldable pub value_on : ℕ → List ℕ → Option ℕ
value_on v [] = Some v
value_on v (b ∷ bs) = elim (is_digit b) [ true ↦ value_on (min (v * 10 + (b - code "0")) most) bs | false ↦ None ]

-- one or more decimal digits are their value; nothing else is a number
unfoldable pub decimal_in : List ℕ → Option ℕ
decimal_in [] = None
decimal_in (b ∷ bs) = value_on 0 (b ∷ bs)

-- what an argument may come to, whichever it is
pub record Spelled (r : Option ℕ) : Type 0 where
  pub text : List ℕ
  pub value : r ≡ decimal_in text
