-- The text of an input, return by return of `settings_text`.
-- Assumes nothing.
use mathlib.Core.Path.{◌≡◌, refl, sym, ap, ◌∙◌}
use mathlib.Core.List.{List}
use Prim.Native.Nat.{ℕ, ◌≤◌, ◌<◌}
use native.Mathlib.Omega.{arith}
use lib.ListN.{length, take, length-append}
use Rattle.std.specs.Prelude.{Ok, Err}
use Rattle.answers.specs.declared.Refusal.{Refusal}
use Rattle.answers.specs.Answers.{accepted, number_of}
use Rattle.answers.specs.Questions.{Verdict, first_no}
use Rattle.answers.specs.Outcomes.{Outcome}
use Rattle.answers.proofs.Results.{err_no}
use Rattle.counts.specs.Counts.{W, E}
use Rattle.answers.specs.Buffers.{Put}
use Rattle.cmd_text.specs.Text.{decimal, refusal_line}
use Rattle.cmd_text.specs.Written.{written}
use Rattle.cmd_text.proofs.Decimal.{digits_few}
use Rattle.cmd_text.proofs.Lines.{bits_within}
use Rattle.cmd_text.proofs.Written.{text-written}
use Rattle.cmd_read_order.specs.declared.OrderSet.{OrderSet}
use Rattle.cmd_read_order.specs.Orders.{count_in, order_questions, order_setting, report_of, order_report}
use Rattle.cmd_read_order.proofs.Outcomes.{Accepted, order-accepted, report_outcome, report_entries}
use Rattle.cmd_settings.specs.Settings.{setting_lines, text_of, settings_text, settings_call}

-- ---- room

-- 12 + 9,226 + 14 bytes
pub lines_fit : (n : ℕ) (bits : List ℕ) (e : ℕ) → n ≤ 1024 → length bits ≤ 9217 → e ≤ 16381 → length (setting_lines n bits e) ≤ 9252
unfolding setting_lines
lines_fit n bits e h g l =
    let a : length (decimal n) ≤ 4 = digits_few 3 n (let z : n < 10000 = omega arith in z) in
    let b : length (decimal e) ≤ 5 = digits_few 4 e (let z : e < 100000 = omega arith in z) in
    simp length-append (omega (arith, a, b, bits_within bits 9217 (omega arith) g))

-- a text that was put at the front of the buffer, where it is the input's
pub prints : (input : List ℕ) {text before after : List ℕ} {r : ℕ} → settings_text input ≡ text → Put before 0 text r after → written r after ≡ settings_call input before
prints input e P = rw e (text-written P)

-- ---- the text

pub text_of_lem : (input : List ℕ) {v : Verdict} → first_no (order_questions input) ≡ v → settings_text input ≡ text_of v input
unfolding settings_text
text_of_lem input e = ap (λ v. text_of v input) e

module _ (input before : List ℕ) {bits : List ℕ} where
  pub prints_refusal : (r : Refusal) → report_of (Err r) bits ≡ order_report input before → settings_text input ≡ refusal_line (number_of r.reason) r.place
  unfolding order_setting
  prints_refusal r R =
      let answered = ap (λ (o : Outcome). o.answer) (report_outcome input before R) in
      text_of_lem input (err_no (λ (s : OrderSet). s.places) r (first_no (order_questions input)) (count_in input) answered)

  module _ (s : OrderSet) (R : report_of (Ok s) bits ≡ order_report input before) where
    accepts : Accepted input (accepted s.places) bits
    accepts = order-accepted input before (report_outcome input before R) refl

    pub places_few_lem : s.places ≤ 1024
    places_few_lem = accepts.few

    pub entries_are : s.entries ≡ E s.places
    entries_are = report_entries input before R accepts.asked ∙ ap E (sym accepts.places)

    module _ {w : ℕ} (exact : w ≡ W s.places) where
      pub bits_there : w ≤ length bits
      bits_there = omega (arith, exact, accepts.room)

      pub prints_lines : settings_text input ≡ setting_lines s.places (take w bits) s.entries
      prints_lines = text_of_lem input accepts.asked ∙ rw (exact, entries_are, accepts.setting, accepts.places)
