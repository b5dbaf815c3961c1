-- Questions 1 and 6 of what a permutation record holds: its length, its 1,024 entries, its number of entries that stay home.
-- Assumes nothing: these are definitions.
use Rattle.std.specs.Prelude.{Bool, cond, List, [], ◌∷◌, ℕ, ltb, eqb, get_or, take}
use Rattle.answers.specs.Questions.{Question, ask, ask_each}
use Rattle.permutation.specs.Permutations.{good_entry, fixed_points}
use Rattle.questions.specs.Asked.{places_few}

-- question 6 at one index of a record: an entry past the length that isn't 0 is bad too
unfoldable pub good_in_record : ℕ → List ℕ → ℕ → Bool
good_in_record n es i = cond (ltb i n) (good_entry n es i) (eqb (get_or es i 0) 0)

-- 1 and 6 of all that a record holds (02, F-2): a wrong number is bad at place 1,024, after all entries have passed
abbrev pub record_asks : ℕ → List ℕ → ℕ → List Question
record_asks n es fixed =
    places_few n
    ∷ ask_each 6 (good_in_record n es) 1024
    ∷ ask 6 1024 (eqb fixed (fixed_points (take n es)))
    ∷ []
