-- The calls `apply` (01: mix) and `apply_inverse` (01: return), in each wiring (02, F-6) and in the paper's.
-- Assumes nothing: these are definitions.
use Rattle.std.specs.Prelude.{List, ℕ, length}
use Rattle.answers.specs.Questions.{first_no}
use Rattle.answers.specs.Outcomes.{Logged, settled_logged}
use Rattle.counts.specs.Counts.{W}
use Rattle.network.specs.Wiring.{Wiring, paper}
use Rattle.network.specs.Blocks.{moved, moved_back}
use Rattle.network.specs.Log.{words, apply_entries, inverse_entries}
use Rattle.apply_questions.specs.Questions.{apply_questions}

abbrev pub apply_call_in : Wiring → ℕ → ℕ → List ℕ → List ℕ → List ℕ → Logged
apply_call_in w n width blocks bits log =
    settled_logged
    (first_no (apply_questions n width (length blocks) bits (length log)))
    (W n) (moved w n width bits blocks) blocks (words (apply_entries w n)) log

abbrev pub inverse_call_in : Wiring → ℕ → ℕ → List ℕ → List ℕ → List ℕ → Logged
inverse_call_in w n width blocks bits log =
    settled_logged
    (first_no (apply_questions n width (length blocks) bits (length log)))
    (W n) (moved_back w n width bits blocks) blocks (words (inverse_entries w n)) log

-- 01: mix
unfoldable pub apply_call : ℕ → ℕ → List ℕ → List ℕ → List ℕ → Logged
apply_call = apply_call_in paper

-- 01: return
unfoldable pub inverse_call : ℕ → ℕ → List ℕ → List ℕ → List ℕ → Logged
inverse_call = inverse_call_in paper
