-- The questions on the input, return by return of the functions that ask them.
-- Assumes nothing.
use mathlib.Core.Path.{◌≡◌, sym, ap, ◌∙◌}
use mathlib.Core.List.{List, [], ◌∷◌}
use Prim.Native.Nat.{ℕ, ◌≤◌, ◌<◌}
use native.Mathlib.Omega.{arith}
use lib.ListN.{length, take}
use Rattle.std.specs.Prelude.{Result, Ok, Err}
use Rattle.answers.specs.declared.Reason.TheVariants.{Places, InputEnd}
use Rattle.answers.specs.declared.Refusal.{Refusal}
use Rattle.answers.specs.Questions.{Question, all_yes, no_at, first_no}
use Rattle.answers.specs.Outcomes.{settled}
use Rattle.answers.proofs.Questions.{each_yes, yes_each, asked-both, asked-first}
use Rattle.numbers.specs.Numbers.{number_questions, number_at, sevens, Reads}
use Rattle.numbers.specs.Reading.{meaning}
use Rattle.numbers.proofs.Numbers.{refused}
use Rattle.rows.specs.declared.RowEnd.{RowEnd}
use Rattle.rows.specs.Rows.{numbers_questions, Row}
use Rattle.rows.proofs.Reading.{RowOf, row_refused}
use Rattle.rows.proofs.Rows.{numbers_length}
use Rattle.questions.specs.Asked.{places_few, ends_at}
use Rattle.questions.proofs.Lists.{first_no_lem}
use Rattle.questions.proofs.Parts.{NoInPart, part_no, parts_pass, each_passes}
use Rattle.questions.proofs.Asked.{few_yes, few_no, few_means, end_yes, end_no}
use Rattle.network.specs.Wiring.{paper}
use Rattle.steps.specs.Setting.{setting_for}
use Rattle.cmd_read_order.specs.Orders.{count_in, entries_at, order_in, end_of, form_questions, entry_questions, order_questions, Reported, reported, entries_logged, set_report, report_of, order_report}

-- ---- the whole input

-- what `read_order` promises
abbrev pub Order : List ℕ → List ℕ → Result ℕ Refusal → Type 0
Order input order r = Row (form_questions input) (count_in input) (count_in input) (order_in input) order r

abbrev size_asked : List ℕ → List Question
size_asked input = places_few (count_in input) ∷ []

abbrev end_asked : List ℕ → List Question
end_asked input = ends_at (end_of input) input ∷ []

abbrev form_parts : List ℕ → List (List Question)
form_parts input =
    number_questions input 0 ∷ size_asked input ∷ numbers_questions sevens (count_in input) input (entries_at input) ∷ end_asked input ∷ []

module _ (input : List ℕ) where
  -- a no in one of the parts
  stops : (i : ℕ) {q p : ℕ} → NoInPart i (form_parts input) q p → first_no (form_questions input) ≡ no_at q p
  unfolding form_questions
  stops i e = part_no i (form_parts input) e

  pub count_stops : (r : Refusal) {order : List ℕ} → meaning (Err r) ≡ number_at input 0 → Order input order (Err r)
  count_stops r e = row_refused r (stops 0 (refused input 0 r e))

  module _ {n at : ℕ} (C : Reads sevens input 0 n at) where
    pub count_large : {order : List ℕ} → 1024 < n → Order input order (Err (record { reason = Places; place = 0 }))
    count_large h =
        let large = first_no_lem 0 (size_asked input) (few_no (count_in input) (omega (arith, C.value))) in
        row_refused (record { reason = Places; place = 0 }) (stops 1 (C.asked, large))

    module _ (h : n ≤ 1024) where
      few : first_no (size_asked input) ≡ all_yes
      few = yes_each (size_asked input) (few_yes (count_in input) (omega (arith, C.value)), tt)

      there : {order : List ℕ} {r : Result RowEnd Refusal} → RowOf sevens input at n order r → RowOf sevens input (entries_at input) (count_in input) order r
      there R = rw (C.value, C.next) R

      pub row_stop : (r : Refusal) {order : List ℕ} → RowOf sevens input at n order (Err r) → Order input order (Err r)
      row_stop r R = row_refused r (stops 2 (C.asked, (few, (there R).answer)))

      module _ (x : RowEnd) {order : List ℕ} (R : RowOf sevens input at n order (Ok x)) where
        asked : first_no (numbers_questions sevens (count_in input) input (entries_at input)) ≡ all_yes
        asked = (there R).answer.0

        place : x.next ≡ end_of input
        place = ap (λ (x : RowEnd). x.next) (there R).answer.1

        pub surplus : x.next < length input → Order input order (Err (record { reason = InputEnd; place = x.next }))
        surplus l =
            let goes_on = first_no_lem 0 (end_asked input) (end_no (end_of input) input (omega (arith, place))) in
            row_refused (record { reason = InputEnd; place = x.next }) (rw place (stops 3 (C.asked, (few, (asked, goes_on)))))

        pub order-done : length input ≤ x.next → Order input order (Ok n)
        unfolding form_questions
        order-done l =
            let ends = yes_each (end_asked input) (end_yes (end_of input) input (omega (arith, place)), tt) in
            let all : first_no (form_questions input) ≡ all_yes = parts_pass (form_parts input) (C.asked, (few, (asked, (ends, tt)))) in
            record { answer = (all, sym C.value); numbers = λ y. (there R).numbers asked }

-- ---- the whole call: then question 6, and the setting

-- at most 1,024 places where the input passes
pub places_small : (input : List ℕ) → first_no (form_questions input) ≡ all_yes → count_in input ≤ 1024
unfolding form_questions
places_small input e =
    few_means (count_in input) (each_yes (size_asked input) (each_passes (form_parts input) e).1.0).0

module _ (input buffer : List ℕ) {order : List ℕ} where
  pub form_refused : (r : Refusal) → Order input order (Err r) → report_of (Err r) buffer ≡ order_report input buffer
  unfolding order_report order_questions
  form_refused r R =
      let no = asked-first (form_questions input) (entry_questions (order_in input)) R.answer in
      sym (ap (λ v. reported (settled v (count_in input) (setting_for paper (order_in input)) buffer) (entries_logged v (count_in input))) no)

  module _ {n : ℕ} (R : Order input order (Ok n)) where
    pub places_few_lem : n ≤ 1024
    places_few_lem = rw R.answer.1 (places_small input R.answer.0)

    pub then_set : {o : Reported} → o ≡ set_report (entry_questions (take n order)) (length (take n order)) (take n order) buffer
        → o ≡ order_report input buffer
    unfolding order_report order_questions
    then_set e =
        let passes = R.answer.0 in
        let same : take n order ≡ order_in input = rw R.answer.1 (R.numbers passes) in
        let places : length (order_in input) ≡ count_in input = numbers_length sevens input (count_in input) (entries_at input) in
        e
        ∙ ap (λ o. set_report (entry_questions o) (length o) o buffer) same
        ∙ ap (λ m. set_report (entry_questions (order_in input)) m (order_in input) buffer) places
        ∙ ap (λ v. reported (settled v (count_in input) (setting_for paper (order_in input)) buffer) (entries_logged v (count_in input)))
        (sym (asked-both (form_questions input) (entry_questions (order_in input)) passes))
