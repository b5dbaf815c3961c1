-- The programs read at most 2,051 bytes of an order, and ask what they would ask of the whole: of 1,024 places at most the entries end
-- with byte 2,050, so that a longer input has a surplus byte among those read, and is refused as the whole would be.
-- Assumes nothing.
use mathlib.Core.Path.{◌≡◌, sym, ap, ◌∙◌}
use mathlib.Core.List.{List, [], ◌∷◌, ◌++◌}
use Prim.Native.Nat.{ℕ, ◌+◌, ◌*◌, ◌≤◌}
use native.Mathlib.Omega.{arith}
use lib.Dec.{leb}
use lib.ListN.{length, take}
use lib.Seq.{length-take-le}
use borrow.Author.Tests.{lt-leb, leb-true}
use Rattle.answers.specs.Questions.{Question, all_yes, no_at, first_no}
use Rattle.answers.proofs.Questions.{asked_no, passed, both_pass}
use Rattle.numbers.specs.Numbers.{number_questions, NumberAnswer, number_at, sevens}
use Rattle.numbers.proofs.Reach.{place_near, asked_alike, read_alike}
use Rattle.rows.specs.Rows.{numbers_questions}
use Rattle.rows.proofs.Reach.{both_alike, one_alike, SameNo, same_no, row_near, row-asked, row-place}
use Rattle.questions.specs.Asked.{places_few, ends_at}
use Rattle.cmd_read_order.specs.Orders.{order_room, count_in, entries_at, order_in, end_of, form_questions, entry_questions, order_questions}
use Rattle.cmd_read_order.proofs.Asking.{places_small}

-- ---- the questions in their parts

abbrev end_asked : List ℕ → List Question
end_asked input = ends_at (end_of input) input ∷ []

abbrev row_asked : List ℕ → List Question
row_asked input = numbers_questions sevens (count_in input) input (entries_at input)

abbrev size_asked : List ℕ → List Question
size_asked input = places_few (count_in input) ∷ (row_asked input ++ end_asked input)

-- ---- an order of 1,024 places at most ends with byte 2,050

end_near : (input : List ℕ) → count_in input ≤ 1024 → end_of input ≤ 2050
end_near input h = omega (arith, place_near input 0, row_near input (count_in input) (entries_at input))

end_no : (input : List ℕ) → 2051 ≤ length input → count_in input ≤ 1024 → first_no (end_asked input) ≡ no_at 12 (end_of input)
end_no input g h =
    asked_no 12 (end_of input) (leb (length input) (end_of input)) [] (lt-leb (length input) (end_of input) (omega (arith, end_near input h)))

-- ---- an input of 2,051 bytes or more, and its first 2,051

module _ (input : List ℕ) (long : 2051 ≤ length input) where
  cut : List ℕ
  cut = take 2051 input

  cut_long : 2051 ≤ length cut
  unfolding cut
  cut_long = omega (arith, length-take-le 2051 input long)

  first : number_at cut 0 ≡ number_at input 0
  unfolding cut
  first = read_alike input 2051 long 0 (omega arith)

  count : count_in cut ≡ count_in input
  count = ap (λ (a : NumberAnswer). a.value) first

  after : entries_at cut ≡ entries_at input
  after = ap (λ (a : NumberAnswer). a.next) first

  module _ (h : count_in input ≤ 1024) where
    room : entries_at input + 2 * count_in input ≤ 2051
    room = omega (arith, place_near input 0)

    row : first_no (row_asked cut) ≡ first_no (row_asked input)
    unfolding cut
    row = rw (count, after) (row-asked input 2051 long (count_in input) (entries_at input) room)

    end : first_no (end_asked cut) ≡ first_no (end_asked input)
    unfolding cut
    end =
        let place : end_of cut ≡ end_of input = rw (count, after) (row-place input 2051 long (count_in input) (entries_at input) room) in
        end_no cut cut_long (omega (arith, count)) ∙ ap (no_at 12) place ∙ sym (end_no input long h)

  size_alike : first_no (size_asked cut) ≡ first_no (size_asked input)
  size_alike =
      ap (λ n. first_no (places_few n ∷ (row_asked cut ++ end_asked cut))) count
      ∙ one_alike 1 0 (leb (count_in input) 1024) (row_asked cut ++ end_asked cut) (row_asked input ++ end_asked input)
      (λ y.
      let few = leb-true (count_in input) 1024 y in
      both_alike (row_asked cut) (row_asked input) (end_asked cut) (end_asked input) (row few) (λ z. end few))

  form_alike : first_no (form_questions cut) ≡ first_no (form_questions input)
  unfolding form_questions cut
  form_alike =
      both_alike (number_questions cut 0) (number_questions input 0) (size_asked cut) (size_asked input)
      (asked_alike input 2051 long 0 (omega arith))
      (λ y. size_alike)

  surplus : first_no (form_questions input) ≡ all_yes → ⊥
  unfolding form_questions
  surplus e =
      let h = places_small input e in
      let rest = (both_pass (number_questions input 0) (size_asked input) e).second in
      let row = (passed 1 0 (leb (count_in input) 1024) (row_asked input ++ end_asked input) rest).rest in
      let last = (both_pass (row_asked input) (end_asked input) row).second in
      let end = (passed 12 (end_of input) (leb (length input) (end_of input)) [] last).here in
      omega (arith, leb-true (length input) (end_of input) end, end_near input h)

-- such an input is refused, and by its first 2,051 bytes alike
pub order-cut : (input : List ℕ) → order_room ≤ length input → SameNo (order_questions (take order_room input)) (order_questions input)
unfolding order_questions cut
order-cut input long =
    let part = take 2051 input in
    same_no (form_questions part ++ entry_questions (order_in part)) (form_questions input ++ entry_questions (order_in input))
    (both_alike (form_questions part) (form_questions input) (entry_questions (order_in part)) (entry_questions (order_in input))
    (form_alike input long)
    (λ y. absurd (surplus input long y)))
    (λ e. surplus input long (both_pass (form_questions input) (entry_questions (order_in input)) e).first)
