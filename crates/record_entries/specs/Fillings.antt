-- What a loop that fills the entries of a record and counts them comes to. Assumes nothing: this is a definition.
use Rattle.std.specs.Prelude.{List, ℕ}
use Rattle.permutation.specs.Permutations.{fixed_points}
use Rattle.record_entries.specs.Entries.{padded}
use Rattle.record_entries.specs.declared.Counted.{Counted}

-- the entries of this list, with how many of them stay home
abbrev pub counted_of : List ℕ → Counted
counted_of es = record { entries = padded es; fixed = fixed_points es }
