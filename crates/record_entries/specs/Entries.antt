-- The entries of a permutation record: 1,024, those past its length 0. Assumes nothing: this is a definition.
use Rattle.std.specs.Prelude.{List, ◌++◌, ℕ, ◌-◌, length, replicate}

-- the entries of a record that holds this list
abbrev pub padded : List ℕ → List ℕ
padded es = es ++ replicate (1024 - length es) 0
