-- What the setter leaves after its questions.
-- Assumes nothing: these are definitions.
use Rattle.std.specs.Prelude.{◌≡◌, List, ℕ, length}
use Rattle.answers.specs.Buffers.{overlay}
use Rattle.counts.specs.Counts.{E}
use Rattle.network.specs.Wiring.{Wiring, paper}
use Rattle.network.specs.Log.{words}
use Rattle.steps.specs.Sequence.{set_entries}
use Rattle.steps.specs.Setting.{setting_for}

-- the count, the bits, the log
pub record SetsIn (w : Wiring) (order log : List ℕ) (r : ℕ) (bits' log' : List ℕ) : Type 0 where
  pub count : r ≡ E (length order)
  pub bits_are : bits' ≡ setting_for w order
  pub log_is : log' ≡ overlay log 0 (words (set_entries w (length order)))

abbrev pub Sets : List ℕ → List ℕ → ℕ → List ℕ → List ℕ → Type 0
Sets = SetsIn paper
