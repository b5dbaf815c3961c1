-- The same rows, from a log of mixing: each entry has the two places of its switch.
-- Assumes nothing: these are definitions.
use Rattle.std.specs.Prelude.{List, [], ◌++◌, ℕ, zero, suc, length, get_or}
use Rattle.network.specs.Log.{entry_at}
use Rattle.permutation.specs.Permutations.{tabulate}
use Rattle.cmd_text.specs.Text.{text}
use Rattle.cmd_picture_line.specs.Line.{label, grouped}
use Rattle.cmd_picture.specs.Picture.{mark}

abbrev pub mark_in : List ℕ → List ℕ → ℕ → ℕ → ℕ
mark_in log bits place e = mark (entry_at log e).first (entry_at log e).second (get_or bits e 0) place

abbrev pub columns_in : List ℕ → List ℕ → ℕ → List ℕ
columns_in log bits place = tabulate (mark_in log bits place) (length bits)

abbrev pub row_in : ℕ → List ℕ → List ℕ → ℕ → List ℕ
row_in n log bits place = label place ++ (grouped n (columns_in log bits place) ++ text "\n")

unfoldable pub rows_in : ℕ → List ℕ → List ℕ → ℕ → List ℕ
rows_in n log bits zero = []
rows_in n log bits (suc place) = rows_in n log bits place ++ row_in n log bits place
