-- A line of the program `list`: an order and its setting (02, F-3).
-- Assumes nothing: these are definitions.
use Rattle.std.specs.Prelude.{List, [], ◌∷◌, ◌++◌, ℕ}
use Rattle.cmd_text.specs.Text.{text, decimal, bits_text, line}

-- entries, each behind a comma
unfoldable pub behind_commas : List ℕ → List ℕ
behind_commas [] = []
behind_commas (x ∷ xs) = text "," ++ (decimal x ++ behind_commas xs)

-- entries parted by commas: none stands before the first
unfoldable pub entries_text : List ℕ → List ℕ
entries_text [] = []
entries_text (x ∷ xs) = decimal x ++ behind_commas xs

-- an order's entries, a space, the bits of a setting or `-`
abbrev pub line_of : List ℕ → List ℕ → List ℕ
line_of order bits = entries_text order ++ line " " (bits_text bits)
