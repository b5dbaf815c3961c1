-- The questions of a call, asked in their sequence: a first no ends it (01, 'The questions').
-- Assumes nothing: these are definitions.
use Rattle.std.specs.Prelude.{◌≡◌, Bool, true, false, List, [], ◌∷◌, ℕ, zero, suc, ◌<◌, eqb}

-- a question: its number, the place that a no names, and what it gets (true: a yes)
pub record Question : Type 0 where
  pub number : ℕ
  pub place : ℕ
  pub yes : Bool

abbrev pub ask : ℕ → ℕ → Bool → Question
ask q p b = record { number = q; place = p; yes = b }

-- the first of the indices i, i + 1, .. that is not good, looking at `left` of them; the one after the last where all are
unfoldable pub first_bad_from : (ℕ → Bool) → ℕ → ℕ → ℕ
first_bad_from good zero i = i
first_bad_from good (suc left) i = elim (good i) [ true ↦ first_bad_from good left (suc i) | false ↦ i ]

-- the first index below n that is not good, or n
abbrev pub first_bad : (ℕ → Bool) → ℕ → ℕ
first_bad good n = first_bad_from good n 0

-- a question about each of n indices: a no names the first bad one
abbrev pub ask_each : ℕ → (ℕ → Bool) → ℕ → Question
ask_each q good n = ask q (first_bad good n) (eqb (first_bad good n) n)

-- what a sequence of questions comes to
pub data Verdict : Type 0 where
  all_yes : Verdict
  no_at : ℕ → ℕ → Verdict

-- the first question that gets a no, with its place
abbrev pub first_no : List Question → Verdict
first_no [] = all_yes
first_no (q ∷ qs) = elim q.yes [ true ↦ first_no qs | false ↦ no_at q.number q.place ]

-- every question of a sequence gets a yes
abbrev pub EachYes : List Question → Type 0
EachYes [] = Unit {0}
EachYes (q ∷ qs) = (q.yes ≡ true) × EachYes qs

-- each question has a number above 0, so that a refusal cannot be taken for success
abbrev pub Numbered : List Question → Type 0
Numbered [] = Unit {0}
Numbered (q ∷ qs) = (0 < q.number) × Numbered qs
