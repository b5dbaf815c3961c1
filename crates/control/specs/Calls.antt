-- 01: set. Its questions, and what the whole call comes to, in each wiring (02, F-6) and in the paper's.
-- Assumes nothing: these are definitions.
use Rattle.std.specs.Prelude.{List, [], ◌∷◌, ℕ, length}
use Rattle.answers.specs.Questions.{Question, first_no}
use Rattle.answers.specs.Outcomes.{Logged, settled_logged}
use Rattle.counts.specs.Counts.{E}
use Rattle.network.specs.Wiring.{Wiring, paper}
use Rattle.network.specs.Log.{words}
use Rattle.questions.specs.Asked.{places_few, bits_for, log_for, an_order}
use Rattle.steps.specs.Sequence.{set_entries}
use Rattle.steps.specs.Setting.{setting_for}

-- 1, 4, 5, 6
abbrev pub set_questions : (order bits log : List ℕ) → List Question
set_questions order bits log =
    places_few (length order)
    ∷ bits_for (length order) bits
    ∷ log_for (E (length order)) (length log)
    ∷ an_order order
    ∷ []

-- the bits left by running the entries from the order; the entries as words; the count of them
abbrev pub set_call_in : Wiring → List ℕ → List ℕ → List ℕ → Logged
set_call_in w order bits log =
    settled_logged
    (first_no (set_questions order bits log))
    (E (length order))
    (setting_for w order)
    bits
    (words (set_entries w (length order)))
    log

unfoldable pub set_call : List ℕ → List ℕ → List ℕ → Logged
set_call = set_call_in paper
