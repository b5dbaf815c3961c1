-- What a reading came to.
-- Assumes nothing: these are definitions.
use Rattle.std.specs.Prelude.{ℕ, zero, suc, ℤ, pos, negsuc, Option, Some, None}

-- a count that is short of the buffer, and what one more read answered: only 0 says that the input ended there
abbrev pub got_of : ℕ → ℤ → Option ℕ
got_of count (pos zero) = Some count
got_of count (pos (suc k)) = None
got_of count (negsuc k) = None
