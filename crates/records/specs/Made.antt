-- The records that accepted operations made (02, F-2). Assumes nothing: these are definitions.
use Rattle.std.specs.Prelude.{◌≡◌, List, ℕ, length}
use Rattle.records.specs.Records.{WellFormed}
use Rattle.records.specs.Records.{identity_call, from_list_call, exchange_call, combine_call, inverse_call, fixed_points_call}
use Rattle.records.specs.declared.Permutation.{Permutation}
use Rattle.records.specs.declared.Reply.{Reply}

-- a call is accepted and gives this record
pub record Gives (r : Reply) (p : Permutation) : Type 0 where
  pub accepted : r.answer.number ≡ 0
  pub gives : r.permutation ≡ p

-- a record handed in: any that a caller can build, of as many entries as the code's have
abbrev pub Handed : Permutation → Type 0
Handed p = length p.entries ≡ 1024

-- made by an accepted fresh, from a list, exchange, combine or inverse, whatever records these were handed, made or not; the asking
-- gives back what it was handed, of which it asks only 1, and so makes no other record than one that was made
pub data Made : Permutation → Type 0 where
  by_identity : {p : Permutation} (n : ℕ) → Gives (identity_call n) p → Made p
  by_list : {p : Permutation} (es : List ℕ) → Gives (from_list_call es) p → Made p
  by_exchange : {p : Permutation} (q : Permutation) (i j : ℕ) → Handed q → Gives (exchange_call q i j) p → Made p
  by_combine : {p : Permutation} (q r : Permutation) → Handed q → Handed r → Gives (combine_call q r) p → Made p
  by_inverse : {p : Permutation} (q : Permutation) → Handed q → Gives (inverse_call q) p → Made p
  by_asking : {p : Permutation} (q : Permutation) → Made q → Gives (fixed_points_call q) p → Made p

-- a record that passes questions 1 and 6, of as many entries as the code's have
pub record Whole (p : Permutation) : Type 0 where
  pub room : Handed p
  pub well_formed : WellFormed p
