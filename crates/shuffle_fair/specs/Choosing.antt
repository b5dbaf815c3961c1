-- What `choose` gives: 01's number and values for each of its cases, and what they say of the words.
-- Assumes nothing: these are definitions.
use Rattle.std.specs.Prelude.{◌≡◌, List, [], ◌∷◌, ℕ, take, Option, Some, None}
use Rattle.answers.specs.Questions.{Question, Verdict, all_yes, no_at, first_no}
use Rattle.answers.specs.Outcomes.{beside_of}
use Rattle.shuffle_fair.specs.Words.{chosen, words_last}

-- 18
abbrev pub supply_asks : ℕ → List ℕ → List Question
supply_asks n words = words_last n words ∷ []

-- the cases: a yes and the number of words used, or 18
abbrev pub verdict_of : Option ℕ → Verdict
verdict_of (Some used) = all_yes
verdict_of None = no_at 18 0

abbrev pub used_of : Option ℕ → ℕ
used_of (Some used) = used
used_of None = 0

-- what a choice says of n places and the words; where they are enough, those taken are the front of what was kept
pub record Chose (n : ℕ) (words kept : List ℕ) (choice : Option ℕ) : Type 0 where
  pub asked : first_no (supply_asks n words) ≡ verdict_of choice
  pub used : beside_of (first_no (supply_asks n words)) (chosen n words).used ≡ used_of choice
  pub taken : verdict_of choice ≡ all_yes → (chosen n words).taken ≡ take n kept
