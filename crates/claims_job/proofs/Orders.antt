-- An order that is written as draw writes it is read back.
-- Assumes nothing.
use mathlib.Core.Path.{◌≡◌, sym, ap, ◌∙◌}
use mathlib.Core.List.{List, [], ◌∷◌, ◌++◌, append-nil}
use Prim.Native.Nat.{ℕ, zero, suc, ◌+◌, ◌≤◌, ◌<◌}
use native.Mathlib.Omega.{arith}
use native.Mathlib.Decide.{dec_lt}
use borrow.Author.Tests.{le-leb, eq-eqb}
use lib.Dec.{leb, eqb}
use lib.ListN.{length, get_or, drop, get_or-eq_default}
use Rattle.answers.specs.Questions.{Question, ask, all_yes, first_no}
use Rattle.answers.proofs.Questions.{asked_yes, asked-both, BothPass, both_pass}
use Rattle.permutation.specs.Permutations.{IsPermutation, first_bad_entry}
use Rattle.permutation.proofs.Permutations.{permutation_passes}
use Rattle.numbers.specs.Numbers.{number_questions, sevens}
use Rattle.rows.specs.Rows.{numbers_questions, numbers_at, place_past, Fourteens}
use Rattle.rows.proofs.Rows.{Back, row_back}
use Rattle.cmd_read_order.specs.Orders.{count_in, entries_at, order_in, end_of, form_questions, entry_questions, order_questions}
use Rattle.cmd_draw.specs.Draw.{order_bytes}
use Rattle.numbers.proofs.Numbers.{number-back}
use Rattle.claims_job.specs.Job.{Holds}

module _ (n : ℕ) (order : List ℕ) (small : n ≤ 1024) (O : IsPermutation n order) where
  entries_fit : Fourteens (length order ∷ order)
  entries_fit zero = omega (arith, O.whole)
  entries_fit (suc i) = go (dec_lt i n)
    where
      go : Dec (i < n) → get_or order i 0 < 16384
      go (yes l) = omega (arith, O.below i l)
      go (no l) = rw (get_or-eq_default order 0 {n = i} (omega (arith, O.whole))) (omega arith)

  back : Back sevens (order_bytes order) 0 (length order ∷ order) (0 + length (order_bytes order))
  unfolding order_bytes
  back = row_back sevens number-back (length order ∷ order) (order_bytes order) [] [] (sym (append-nil (order_bytes order))) entries_fit

  count-back : count_in (order_bytes order) ≡ length order
  unfolding numbers_at
  count-back = ap (λ vs. get_or vs 0 0) back.numbers

  order-back : order_in (order_bytes order) ≡ order
  unfolding numbers_at
  order-back = rw count-back (ap (drop 1) back.numbers)

  end_back : end_of (order_bytes order) ≡ 0 + length (order_bytes order)
  unfolding place_past
  end_back = rw count-back back.place

  abbrev row : ℕ → List Question
  row k = numbers_questions sevens k (order_bytes order) (entries_at (order_bytes order))

  both : BothPass (number_questions (order_bytes order) 0) (row (length order))
  unfolding numbers_questions
  both = both_pass (number_questions (order_bytes order) 0) (row (length order)) back.asked

  form_asked_lem : first_no (form_questions (order_bytes order)) ≡ all_yes
  unfolding form_questions
  form_asked_lem =
      let input = order_bytes order in
      let c = count_in input in
      let few = leb c 1024 in
      let whole = leb (length input) (end_of input) in
      let end : List Question = ask 12 (end_of input) whole ∷ [] in
      asked-both (number_questions input 0) (ask 1 0 few ∷ (row c ++ end)) both.first
      ∙ asked_yes 1 0 few (row c ++ end) (le-leb c 1024 (omega (arith, count-back, O.whole)))
      ∙ asked-both (row c) end (rw count-back both.second)
      ∙ asked_yes 12 (end_of input) whole [] (le-leb (length input) (end_of input) (omega (arith, end_back)))

  entries-asked : first_no (entry_questions order) ≡ all_yes
  entries-asked =
      asked_yes 6 (first_bad_entry order) (eqb (first_bad_entry order) (length order)) []
      (eq-eqb (first_bad_entry order) (length order) (permutation_passes n order O))

  pub order_holds : Holds n order (order_bytes order)
  unfolding order_questions
  order_holds =
      let input = order_bytes order in
      record {
        asked = asked-both (form_questions input) (entry_questions (order_in input)) form_asked_lem ∙ rw order-back entries-asked;
        places = count-back ∙ O.whole;
        entries = order-back;
      }
