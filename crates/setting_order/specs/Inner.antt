-- What the inner functions promise: numbers as blocks of two bytes, the low byte first.
-- Assumes nothing: these are definitions.
use Rattle.std.specs.Prelude.{◌≡◌, List, ℕ, ◌+◌, ◌*◌, ◌/◌, ◌%◌, ◌<◌, get_or}

-- the number in block i
abbrev pub number_in : List ℕ → ℕ → ℕ
number_in blocks i = get_or blocks (2 * i) 0 + 256 * get_or blocks (2 * i + 1) 0

-- each of the first n blocks holds its own place
pub record Numbered (n : ℕ) (blocks : List ℕ) : Type 0 where
  pub low : (i : ℕ) → i < n → get_or blocks (2 * i) 0 ≡ i % 256
  pub high : (i : ℕ) → i < n → get_or blocks (2 * i + 1) 0 ≡ i / 256
