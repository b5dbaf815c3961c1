-- The values of a network, taken out of a table into a row of their own.
-- Assumes nothing: these are definitions.
use Rattle.std.specs.Prelude.{List, ◌≡◌, ℕ, ◌+◌, ◌*◌, ◌/◌, ◌≤◌, ◌<◌, get_or}

-- how many places a row of m values takes: whole sixteens, so that no loop over them has a remainder
abbrev pub sixteens : ℕ → ℕ
sixteens m = (m + 15) / 16 * 16

-- place i of the row holds what `place i` holds in the table
pub record Gathered (place : ℕ → ℕ) (m : ℕ) (xs row : List ℕ) : Type 0 where
  pub at : (i : ℕ) → i < m → get_or row i 0 ≡ get_or xs (place i) 0

-- past the m values, the rest of the last sixteen holds a number that is no value
unfoldable pub Padded : ℕ → List ℕ → Type 0
Padded m row = (i : ℕ) → m ≤ i → i < sixteens m → get_or row i 0 ≡ 65535
