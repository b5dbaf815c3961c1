-- The call from its questions: a refusal, and the accepted call. What each question gets: questions, proofs/Asked.
-- Assumes nothing.
use mathlib.Core.Path.{◌≡◌, refl, sym, ap, ◌∙◌}
use mathlib.Core.List.{List}
use Prim.Native.Nat.{ℕ}
use lib.ListN.{length}
use Rattle.answers.specs.Answers.{refusal, accepted}
use Rattle.answers.specs.Questions.{all_yes, no_at, first_no}
use Rattle.answers.specs.Outcomes.{logged}
use Rattle.answers.proofs.Outcomes.{logged_refused, logged-accepted}
use Rattle.answers.proofs.Buffers.{overlay_whole}
use Rattle.counts.specs.Counts.{E}
use Rattle.network.specs.Wiring.{Wiring}
use Rattle.network.specs.Log.{words}
use Rattle.steps.specs.Sequence.{set_entries}
use Rattle.steps.specs.Setting.{setting_for}
use Rattle.setter.specs.Inner.{SetsIn}
use Rattle.control.specs.Calls.{set_questions, set_call_in}

module _ (order bits log : List ℕ) where
  -- a refused call: nothing is written
  pub refused : (w : Wiring) (q p : ℕ) → first_no (set_questions order bits log) ≡ no_at q p → logged (refusal q p) bits log ≡ set_call_in w order bits log
  refused w q p e = logged_refused _ _ _ _ _ _ e refl refl refl

  -- an accepted call: what the setter left
  pub taken : (w : Wiring) {bits' log' : List ℕ} (count : ℕ) → first_no (set_questions order bits log) ≡ all_yes
      → SetsIn w order log count bits' log'
      → length bits' ≡ length bits → logged (accepted count) bits' log' ≡ set_call_in w order bits log
  taken w count e S k =
      logged-accepted (first_no (set_questions order bits log)) (E (length order)) (setting_for w order) bits
      (words (set_entries w (length order))) log e (ap accepted S.count)
      (S.bits_are ∙ sym (overlay_whole bits (setting_for w order) (ap length (sym S.bits_are) ∙ k)))
      S.log_is
