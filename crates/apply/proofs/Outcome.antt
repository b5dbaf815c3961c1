-- What an accepted call comes to, in each wiring.
-- Assumes nothing.
use mathlib.Core.Path.{◌≡◌, sym, ap, ◌∙◌}
use mathlib.Core.List.{List}
use Prim.Native.Nat.{ℕ}
use lib.ListN.{length}
use Rattle.answers.specs.Answers.{accepted}
use Rattle.answers.specs.Questions.{Verdict, all_yes, first_no}
use Rattle.answers.specs.Buffers.{overlay}
use Rattle.answers.specs.Outcomes.{logged, settled_logged}
use Rattle.answers.proofs.Buffers.{overlay_whole}
use Rattle.counts.specs.Counts.{W}
use Rattle.network.specs.Wiring.{Wiring, Lawful}
use Rattle.network.specs.Blocks.{moved, moved_back}
use Rattle.network.specs.Log.{words, apply_entries, inverse_entries}
use Rattle.network.proofs.Moved.{length_moved, length-moved_back}
use Rattle.apply_questions.specs.Questions.{apply_questions}
use Rattle.apply.specs.Calls.{apply_call_in, inverse_call_in}
use Rattle.apply_questions.proofs.Asked.{Fits, fit_passes}

-- what a call that is not refused comes to
settled_yes : (v : Verdict) (count : ℕ) (words b entries l : List ℕ) → v ≡ all_yes → length words ≡ length b
    → settled_logged v count words b entries l ≡ logged (accepted count) words (overlay l 0 entries)
settled_yes v count words b entries l e long =
    rw e (ap (λ bytes. logged (accepted count) bytes (overlay l 0 entries)) (overlay_whole b words long))

module _ {w : Wiring} (L : Lawful w) (n width : ℕ) (b bits l : List ℕ) (f : Fits n width (length b) bits (length l)) where
  pub apply_accepted : apply_call_in w n width b bits l
      ≡ logged (accepted (W n)) (moved w n width bits b) (overlay l 0 (words (apply_entries w n)))
  apply_accepted =
      settled_yes (first_no (apply_questions n width (length b) bits (length l))) (W n) (moved w n width bits b) b
      (words (apply_entries w n)) l
      (fit_passes f) (length_moved L n width bits b f.whole ∙ sym f.whole)

  pub inverse_accepted : inverse_call_in w n width b bits l
      ≡ logged (accepted (W n)) (moved_back w n width bits b) (overlay l 0 (words (inverse_entries w n)))
  inverse_accepted =
      settled_yes (first_no (apply_questions n width (length b) bits (length l))) (W n) (moved_back w n width bits b) b
      (words (inverse_entries w n)) l
      (fit_passes f) (length-moved_back L n width bits b f.whole ∙ sym f.whole)
