-- What a call leaves in a lent buffer: 'output beyond the part written keeps its bytes' (01, 'The questions').
-- Assumes nothing: these are definitions.
use Rattle.std.specs.Prelude.{◌≡◌, List, ◌++◌, ℕ, ◌+◌, length, take, drop}

-- the buffer with `words` in the place of its items from `at` on
unfoldable pub overlay : List ℕ → ℕ → List ℕ → List ℕ
overlay buffer at words = take at buffer ++ (words ++ drop (at + length words) buffer)

-- bytes were put into a buffer from `at` on, up to the place r
pub record Put (before : List ℕ) (at : ℕ) (bytes : List ℕ) (r : ℕ) (after : List ℕ) : Type 0 where
  pub place : r ≡ at + length bytes
  pub buffer : after ≡ overlay before at bytes
