-- What `order_setting` leaves where it answers 0.
-- Assumes nothing.
use mathlib.Core.Path.{◌≡◌, sym, ap, ◌∙◌}
use mathlib.Core.List.{List, ◌++◌}
use Prim.Native.Nat.{ℕ, ◌≤◌}
use native.Mathlib.Omega.{arith}
use lib.ListN.{length, take, drop, length-append}
use lib.Seq.{take_at}
use Rattle.answers.specs.declared.Answer.{Answer}
use Rattle.answers.specs.Questions.{all_yes, first_no, Numbered}
use Rattle.answers.specs.Outcomes.{answer_of, buffer_of, Outcome, outcome}
use Rattle.answers.proofs.Outcomes.{accepted_when, numbered_both}
use Rattle.answers.proofs.Buffers.{overlay-front}
use Rattle.counts.specs.Counts.{W, E}
use Rattle.numbers.specs.Numbers.{number_questions, sevens}
use Rattle.numbers.proofs.Numbers.{numbered}
use Rattle.rows.specs.Rows.{numbers_questions}
use Rattle.rows.proofs.Rows.{numbers_length, numbered_row}
use Rattle.answers.proofs.Questions.{both_pass}
use Rattle.network.specs.Wiring.{paper}
use Rattle.steps.specs.Setting.{setting_for}
use Rattle.cmd_read_order.specs.Orders.{count_in, entries_at, order_in, form_questions, entry_questions, order_questions, order_setting, Reported, reported, entries_logged, order_report}
use Rattle.cmd_read_order.proofs.Asking.{places_small}
use Rattle.cmd_read_order.proofs.Setting.{setting-length}

order_numbered : (input : List ℕ) → Numbered (order_questions input)
unfolding order_questions form_questions
order_numbered input =
    numbered_both (form_questions input) (entry_questions (order_in input))
    (numbered_both (number_questions input 0) _ (numbered input 0)
    (omega arith, numbered_both (numbers_questions sevens (count_in input) input (entries_at input)) _ (numbered_row sevens input (numbered input) (count_in input) (entries_at input)) (omega arith, tt)))
    (omega arith, tt)

-- the outcome without the entries, and the entries
pub report_outcome : (input buffer : List ℕ) {o : Outcome} {e : ℕ} → reported o e ≡ order_report input buffer → o ≡ order_setting input buffer
unfolding order_report order_setting
report_outcome input buffer r = ap (λ (x : Reported). x.outcome) r

pub report_entries : (input buffer : List ℕ) {o : Outcome} {e : ℕ} → reported o e ≡ order_report input buffer
    → first_no (order_questions input) ≡ all_yes → e ≡ E (count_in input)
unfolding order_report
report_entries input buffer r y = ap (λ (x : Reported). x.entries) r ∙ ap (λ v. entries_logged v (count_in input)) y

-- all questions got a yes; the count is the number of places, and the setting is in front
pub record Accepted (input : List ℕ) (a : Answer) (bits : List ℕ) : Type 0 where
  pub asked : first_no (order_questions input) ≡ all_yes
  pub places : a.count ≡ count_in input
  pub few : a.count ≤ 1024
  pub room : W a.count ≤ length bits
  pub setting : take (W a.count) bits ≡ setting_for paper (order_in input)

pub order-accepted : (input before : List ℕ) {a : Answer} {bits : List ℕ}
    → outcome a bits ≡ order_setting input before → a.number ≡ 0 → Accepted input a bits
unfolding order_setting order_questions
order-accepted input before {a} {bits} O z =
    let order = order_in input in
    let answered = ap (λ (o : Outcome). o.answer) O in
    let yes : first_no (order_questions input) ≡ all_yes =
    accepted_when (order_questions input) (count_in input) (order_numbered input) (sym (ap (λ (a : Answer). a.number) answered) ∙ z)
    in
    let both = both_pass (form_questions input) (entry_questions order) yes in
    let places : a.count ≡ count_in input =
    ap (λ (a : Answer). a.count) answered ∙ ap (λ v. (answer_of v (count_in input)).count) yes
    in
    let long : length (setting_for paper order) ≡ W a.count =
    setting-length order both.second ∙ ap W (numbers_length sevens input (count_in input) (entries_at input) ∙ sym places)
    in
    let front : bits ≡ setting_for paper order ++ drop (length (setting_for paper order)) before =
    ap (λ (o : Outcome). o.buffer) O ∙ ap (λ v. buffer_of v (setting_for paper order) before) yes ∙ overlay-front before (setting_for paper order)
    in
    record {
      asked = yes;
      places = places;
      few = rw places (places_small input both.first);
      room = omega (arith, long, ap length front, length-append (setting_for paper order) (drop (length (setting_for paper order)) before));
      setting = rw front (take_at (setting_for paper order) (drop (length (setting_for paper order)) before) (W a.count) long);
    }
