-- What a call that prints a text leaves in a lent buffer.
-- Assumes nothing: these are definitions.
use Rattle.std.specs.Prelude.{List, ℕ, length}
use Rattle.answers.specs.Buffers.{overlay}

-- the number of bytes written, and the buffer
pub record Written : Type 0 where
  pub count : ℕ
  pub buffer : List ℕ

abbrev pub written : ℕ → List ℕ → Written
written n b = record { count = n; buffer = b }

-- a text over the front of the buffer
abbrev pub printed : List ℕ → List ℕ → Written
printed text buffer = written (length text) (overlay buffer 0 text)
