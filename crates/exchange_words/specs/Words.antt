-- Several bytes as one number, low byte first; several bytes written; what a switch leaves of two numbers.
-- Assumes nothing: these are definitions.
use Rattle.std.specs.Prelude.{ℕ, zero, suc, ◌+◌, ◌*◌, ◌/◌, ◌%◌, List, slice_index, slice_set}

-- the number of the n bytes f 0, f 1, ...
unfoldable pub number : ℕ → (ℕ → ℕ) → ℕ
number zero f = 0
number (suc n) f = f 0 + 256 * number n (λ j. f (suc j))

-- byte j of a number
unfoldable pub byte_of : ℕ → ℕ → ℕ
byte_of zero v = v % 256
byte_of (suc j) v = byte_of j (v / 256)

-- byte j of those from p on
abbrev pub from : ℕ → List ℕ → ℕ → ℕ
from p bytes j = slice_index bytes (p + j)

-- the n bytes from p on become f 0, f 1, ...
unfoldable pub written : ℕ → ℕ → (ℕ → ℕ) → List ℕ → List ℕ
written zero p f bytes = bytes
written (suc n) p f bytes = slice_set (written n p f bytes) (p + n) (f n)

-- b where the bit is 1, a where it is 0
abbrev pub pick : ℕ → ℕ → ℕ → ℕ
pick zero a b = a
pick (suc s) a b = b
