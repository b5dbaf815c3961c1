-- What a table of numbers says.
-- Assumes nothing: this is a definition.
use Rattle.std.specs.Prelude.{◌≡◌, List, ℕ, get_or}

-- r is the number at place n of the table
pub record StandsAt (table : List ℕ) (n r : ℕ) : Type 0 where
  pub is : r ≡ get_or table n 0
