-- From an order's setting to its sheet.
-- Assumes nothing.
use mathlib.Core.Path.{◌≡◌, refl, ap, ◌∙◌}
use mathlib.Core.List.{List, []}
use Prim.Native.Nat.{ℕ, ◌≤◌}
use native.Mathlib.Omega.{arith}
use borrow.Author.Tests.{eqb-true}
use lib.Dec.{eqb}
use lib.ListN.{length, take}
use lib.Seq.{length-take-le}
use Rattle.answers.specs.declared.Answer.{Answer}
use Rattle.answers.specs.Questions.{Verdict, all_yes, no_at, first_no}
use Rattle.answers.specs.Outcomes.{answer_of, Outcome, outcome}
use Rattle.answers.proofs.Questions.{passed, both_pass}
use Rattle.answers.proofs.Outcomes.{ends_refused, ends-accepted}
use Rattle.bits.specs.Bits.{Bits}
use Rattle.counts.specs.Counts.{W}
use Rattle.network.specs.Wiring.{paper}
use Rattle.network.proofs.Paper.{paper_lawful}
use Rattle.permutation.specs.Permutations.{IsPermutation, first_bad_entry}
use Rattle.permutation.proofs.Permutations.{passes_permutation}
use Rattle.canonical.proofs.Only.{canonical_bits}
use Rattle.steps_canonical.proofs.Whole.{setting_canonical}
use Rattle.sheets.specs.Sheet.{sheet}
use Rattle.sheets.specs.Calls.{write_sheet}
use Rattle.sheets.proofs.Round.{write_accepts}
use Rattle.sheets.proofs.Writing.{sheet-length}
use Rattle.steps.specs.Setting.{setting_for}
use Rattle.cmd_read_order.specs.Orders.{count_in, order_in, form_questions, entry_questions, order_questions, order_setting}
use Rattle.cmd_read_order.proofs.Outcomes.{Accepted, order-accepted}
use Rattle.cmd_sheet.specs.Calls.{sheet_for, sheet_call}

-- the setting of an order that passes question 6 consists of bits
setting_bits : (order : List ℕ) → first_no (entry_questions order) ≡ all_yes → Bits (setting_for paper order)
setting_bits order y = canonical_bits paper_lawful (length order) order O (setting_for paper order) (setting_canonical paper_lawful (length order) order O)
  where
    O : IsPermutation (length order) order
    O = passes_permutation order (eqb-true (first_bad_entry order) (length order) (passed 6 (first_bad_entry order) (eqb (first_bad_entry order) (length order)) [] y).here)

module _ (input before out : List ℕ) {read : Answer} {bits : List ℕ} (O : outcome read bits ≡ order_setting input before) where
  pub sheet_refused : (read.number ≡ 0 → ⊥) → outcome read out ≡ sheet_call input out
  unfolding sheet_call order_setting
  sheet_refused n = go (first_no (order_questions input)) refl
    where
      told : read ≡ answer_of (first_no (order_questions input)) (count_in input)
      told = ap (λ (o : Outcome). o.answer) O

      go : (v : Verdict) → first_no (order_questions input) ≡ v → outcome read out ≡ sheet_call input out
      go all_yes t = absurd (n (ap (λ a. a.number) told ∙ rw t))
      go (no_at q p) t = ends_refused (first_no (order_questions input)) (length (sheet_for input)) (sheet_for input) out t (told ∙ rw t) refl

  module _ (z : read.number ≡ 0) where
    A : Accepted input read bits
    A = order-accepted input before O z

    pub places_few_lem : read.count ≤ 1024
    places_few_lem = A.few

    pub bits_there : {w : ℕ} → w ≡ W read.count → w ≤ length bits
    bits_there e = omega (arith, e, A.room)

    pub sheet_written :
        {w : ℕ} {a : Answer} {after : List ℕ}
        → w ≡ W read.count
        → w ≤ 9217
        → length out ≡ 1321
        → outcome a after ≡ write_sheet read.count (take w bits) out
        → outcome a after ≡ sheet_call input out
    unfolding sheet_call order_questions
    sheet_written {w} e m l r =
        let setting : take w bits ≡ setting_for paper (order_in input) = rw e A.setting in
        let long : length (take w bits) ≡ w = length-take-le w bits (bits_there e) in
        let are_bits : Bits (take w bits) =
        rw setting (setting_bits (order_in input) (both_pass (form_questions input) (entry_questions (order_in input)) A.asked).second)
        in
        let fits : length (sheet read.count (take w bits)) ≤ length out = omega (arith, sheet-length read.count (take w bits)) in
        let done = write_accepts read.count (take w bits) out (record { few = A.few; count = long ∙ e; are_bits = are_bits; room = fits }) in
        r ∙ done ∙ rw (setting, A.places)
        (ends-accepted (first_no (order_questions input)) (length (sheet_for input)) (sheet_for input) out A.asked refl refl)
