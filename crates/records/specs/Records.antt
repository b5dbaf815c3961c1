-- The permutation record and its calls (01: open order, a record by value of the length and 1,024 entries, those past the
-- length 0; 02, F-2: it carries the number of entries that stay home). Assumes nothing: these are definitions.
use Rattle.std.specs.Prelude.{Result, Ok, Err, ◌≡◌, ◌&&◌, List, [], ◌∷◌, ◌++◌, ℕ, ◌≤◌, ltb, eqb, length, get_or, take}
use Rattle.answers.specs.declared.Answer.{Answer}
use Rattle.answers.specs.declared.Refusal.{Refusal}
use Rattle.answers.specs.Answers.{refusal, accepted, number_of}
use Rattle.answers.specs.Questions.{Question, ask, Verdict, all_yes, no_at, first_no}
use Rattle.answers.specs.Outcomes.{answer_of}
use Rattle.permutation.specs.Permutations.{IsPermutation, identity, exchanged, combined, inverted, fixed_points}
use Rattle.questions.specs.Asked.{places_few, an_order}
use Rattle.record_questions.specs.Questions.{record_asks}
use Rattle.record_entries.specs.Entries.{padded}
use Rattle.records.specs.declared.Permutation.{Permutation}
use Rattle.records.specs.declared.Reply.{Reply}

-- ---- the record

-- the record of a list: the one place where a record is made
unfoldable pub record_of : List ℕ → Permutation
record_of es = record { length = length es; entries = padded es; fixed = fixed_points es }

-- the list of a record
abbrev pub list_of : Permutation → List ℕ
list_of p = take p.length p.entries

-- ---- its questions

-- 1 of a length
abbrev pub length_asks : ℕ → List Question
length_asks n = places_few n ∷ []

-- 1 and 6 of a record handed in, its number included
abbrev pub questions_of : Permutation → List Question
questions_of p = record_asks p.length p.entries p.fixed

-- a record that passes them
abbrev pub WellFormed : Permutation → Type 0
WellFormed p = first_no (questions_of p) ≡ all_yes

-- what that says: the list of a permutation, nothing past it, and its true number
pub record Sound (p : Permutation) : Type 0 where
  pub small : p.length ≤ 1024
  pub permutation : IsPermutation p.length (list_of p)
  pub past : (v : ℕ) → p.length ≤ v → get_or p.entries v 0 ≡ 0
  pub fixed_true : p.fixed ≡ fixed_points (list_of p)

-- a record with the true number in place of its own
abbrev pub corrected : Permutation → Permutation
corrected p = record { length = p.length; entries = p.entries; fixed = fixed_points (list_of p) }

-- 01: with records handed in 1 and 6 of each, first record first, then 14 or 15
abbrev pub exchange_asks : Permutation → ℕ → ℕ → List Question
exchange_asks p i j = questions_of p ++ (ask 14 0 (ltb i p.length && ltb j p.length) ∷ [])

abbrev pub combine_asks : Permutation → Permutation → List Question
combine_asks p q = questions_of p ++ (questions_of q ++ (ask 15 0 (eqb p.length q.length) ∷ []))

abbrev pub from_list_asks : List ℕ → List Question
from_list_asks es = places_few (length es) ∷ an_order es ∷ []

-- ---- what a call comes to

-- an answer, and a record
abbrev pub reply : Answer → Permutation → Reply
reply a p = record { answer = a; permutation = p }

-- .. from the record that the call made; where it was refused, with the record that it gives back
abbrev pub reply_from : Result Permutation Refusal → Permutation → Reply
reply_from (Ok p) handed = reply (accepted 0) p
reply_from (Err r) handed = reply (refusal (number_of r.reason) r.place) handed

abbrev pub record_after : Verdict → Permutation → Permutation → Permutation
record_after all_yes result handed = result
record_after (no_at q p) result handed = handed

-- a call that asks, then reports `count` and gives `result`; refused, it gives back what it was handed
unfoldable pub replied : List Question → ℕ → Permutation → Permutation → Reply
replied qs count result handed = reply (answer_of (first_no qs) count) (record_after (first_no qs) result handed)

-- 01: fresh. Handed no record, it gives the record of length 0 where it is refused
abbrev pub identity_call : ℕ → Reply
identity_call n = replied (length_asks n) 0 (record_of (identity n)) (record_of [])

abbrev pub from_list_call : List ℕ → Reply
from_list_call es = replied (from_list_asks es) 0 (record_of es) (record_of [])

abbrev pub exchange_call : Permutation → ℕ → ℕ → Reply
exchange_call p i j = replied (exchange_asks p i j) 0 (record_of (exchanged (list_of p) i j)) p

abbrev pub combine_call : Permutation → Permutation → Reply
combine_call p q = replied (combine_asks p q) 0 (record_of (combined (list_of p) (list_of q))) p

abbrev pub inverse_call : Permutation → Reply
inverse_call p = replied (questions_of p) 0 (record_of (inverted (list_of p))) p

-- 02, F-2: the number of entries that stay home as the record carries it, true or not; the record comes back as it was handed in
abbrev pub fixed_points_call : Permutation → Reply
fixed_points_call p = replied (length_asks p.length) p.fixed p p
