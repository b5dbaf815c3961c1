-- The programs read at most 1,321 bytes of a sheet, and ask what they would ask of the whole: the longest sheet has 1,320 bytes, so
-- that a longer input has a surplus byte among those read, and is refused as the whole would be.
-- Assumes nothing.
use mathlib.Core.Path.{◌≡◌, sym, ap, ◌∙◌}
use mathlib.Core.Bool.{true}
use mathlib.Core.List.{List, [], ◌∷◌, ◌++◌}
use Prim.Native.Nat.{ℕ, suc, ◌+◌, ◌*◌, ◌-◌, ◌/◌, ◌^◌, ◌≤◌, ◌<◌}
use native.Mathlib.Nat.{div-lt_iff_lt-mul}
use native.Mathlib.Omega.{arith}
use native.Mathlib.Decide.{dec_lt}
use lib.Dec.{leb, eqb}
use lib.ListN.{length, take, drop, get_or}
use lib.Pow.{pow_mono, pow_pos}
use lib.Seq.{length-take-le, get_or-append_seam}
use borrow.Author.Tests.{lt-leb, leb-true, eqb-true}
use Rattle.answers.specs.Questions.{Question, ask, all_yes, no_at, first_no}
use Rattle.answers.proofs.Questions.{asked_no, passed, both_pass}
use Rattle.counts.specs.Counts.{W}
use Rattle.counts.proofs.Most.{switches_few}
use Rattle.numbers.specs.Numbers.{number_questions, NumberAnswer, number_at, sevens}
use Rattle.numbers.proofs.Numbers.{value_small}
use Rattle.numbers.proofs.Reach.{place_near, place_small, asked_alike, read_alike}
use Rattle.rows.specs.Rows.{numbers_questions, numbers_at, place_past}
use Rattle.rows.proofs.Rows.{place_more, numbers_more, numbers_length, numbers_fit}
use Rattle.rows.proofs.Reach.{both_alike, one_alike, SameNo, same_no, row_near, row-asked, row_numbers, row-place}
use Rattle.questions.specs.Asked.{places_few, ends_at}
use Rattle.sheets.specs.Sheet.{numbers_for, sheet_room}
use Rattle.sheets.specs.Reading.{bits_in, all_zero}
use Rattle.sheets.specs.Calls.{form_in, places_at, places_in, fourteens_at, head_questions, body_questions, bits_from, read_questions}
use Rattle.sheets.proofs.Asking.{head_sized}
use Rattle.sheets.proofs.Unpacking.{fill_last}

-- ---- how far a sheet reaches

-- the last of k + 1 numbers
last_at : (input : List ℕ) (k at : ℕ) → get_or (numbers_at sevens (suc k) input at) k 0 ≡ (number_at input (place_past sevens k input at)).value
last_at input k at =
    let xs = numbers_at sevens k input at in
    let v = (number_at input (place_past sevens k input at)).value in
    let long : length xs ≡ k = numbers_length sevens input k at in
    ap (λ vs. get_or vs k 0) (numbers_more sevens input k at) ∙ ap (λ j. get_or (xs ++ (v ∷ [])) j 0) (sym long) ∙ get_or-append_seam xs v [] 0

-- where the fill bits are 0, the bits of 1,024 places end with a number of one byte
module _ (input : List ℕ) (w at : ℕ) (few : w ≤ 9217) (near : at ≤ 3) where
  filled_near : all_zero (drop w (bits_from input w at)) ≡ true → place_past sevens (numbers_for w) input at ≤ 1320
  unfolding bits_from
  filled_near z = go (dec_lt (numbers_for w) 659)
    where
      go : Dec (numbers_for w < 659) → place_past sevens (numbers_for w) input at ≤ 1320
      go (yes h) = omega (arith, row_near input (numbers_for w) at)
      go (no h) =
          let all : numbers_for w ≡ 659 = omega arith in
          let row = numbers_at sevens 659 input at in
          let v = (number_at input (place_past sevens 658 input at)).value in
          let zero-fill : eqb (get_or row 658 0 / 2 ^ (w - 14 * 658)) 0 ≡ true =
          fill_last row w 658 (numbers_length sevens input 659 at) (omega arith) (omega arith)
          (numbers_fit sevens input (value_small input) 659 at)
          ∙ rw all at z
          in
          let none : v / 2 ^ (w - 14 * 658) ≡ 0 =
          rw (last_at input 658 at) at (eqb-true (get_or row 658 0 / 2 ^ (w - 14 * 658)) 0 zero-fill) in
          let below : v < 1 * 2 ^ (w - 14 * 658) = (div-lt_iff_lt-mul (pow_pos (w - 14 * 658))).0 (omega (arith, none)) in
          let most : 2 ^ (w - 14 * 658) ≤ 2 ^ 5 = pow_mono {j = 5} (omega arith) in
          let one = place_small input (place_past sevens 658 input at) (omega (arith, below, most)) in
          rw all (omega (arith, place_more sevens input 658 at, one, row_near input 658 at))

-- ---- the questions in their parts

abbrev size_asked : ℕ → List ℕ → List Question
size_asked room bytes = places_few (places_in bytes) ∷ ask 4 0 (leb (W (places_in bytes)) room) ∷ []

abbrev places_asked : ℕ → List ℕ → List Question
places_asked room bytes = number_questions bytes (places_at bytes) ++ size_asked room bytes

abbrev form_asked : ℕ → List ℕ → List Question
form_asked room bytes = ask 10 0 (eqb (form_in bytes) 1) ∷ places_asked room bytes

abbrev end_asked : ℕ → ℕ → List ℕ → List Question
end_asked w at bytes = ends_at (place_past sevens (numbers_for w) bytes at) bytes ∷ []

abbrev fill_asked : ℕ → ℕ → List ℕ → List Question
fill_asked w at bytes = ask 11 (place_past sevens (numbers_for w - 1) bytes at) (all_zero (drop w (bits_from bytes w at))) ∷ end_asked w at bytes

-- ---- an input of 1,321 bytes or more, and its first 1,321

module _ (input : List ℕ) (room : ℕ) (long : 1321 ≤ length input) where
  cut : List ℕ
  cut = take 1321 input

  cut_long : 1321 ≤ length cut
  unfolding cut
  cut_long = omega (arith, length-take-le 1321 input long)

  first : number_at cut 0 ≡ number_at input 0
  unfolding cut
  first = read_alike input 1321 long 0 (omega arith)

  after_form : places_at cut ≡ places_at input
  after_form = ap (λ (a : NumberAnswer). a.next) first

  second : number_at cut (places_at cut) ≡ number_at input (places_at input)
  unfolding cut
  second = ap (number_at cut) after_form ∙ read_alike input 1321 long (places_at input) (omega (arith, place_near input 0))

  places : places_in cut ≡ places_in input
  places = ap (λ (a : NumberAnswer). a.value) second

  after : fourteens_at cut ≡ fourteens_at input
  after = ap (λ (a : NumberAnswer). a.next) second

  form_alike : first_no (form_asked room cut) ≡ first_no (form_asked room input)
  unfolding cut
  form_alike =
      let same : first_no (number_questions cut (places_at cut)) ≡ first_no (number_questions input (places_at input)) =
      ap (λ p. first_no (number_questions cut p)) after_form
      ∙ asked_alike input 1321 long (places_at input) (omega (arith, place_near input 0))
      in
      ap (λ (a : NumberAnswer). first_no (ask 10 0 (eqb a.value 1) ∷ places_asked room cut)) first
      ∙ one_alike 10 0 (eqb (form_in input) 1) (places_asked room cut) (places_asked room input)
      (λ y. both_alike (number_questions cut (places_at cut)) (number_questions input (places_at input)) (size_asked room cut) (size_asked room input)
      same
      (λ x. rw places))

  head_alike : first_no (head_questions cut room) ≡ first_no (head_questions input room)
  unfolding head_questions cut
  head_alike =
      both_alike (number_questions cut 0) (number_questions input 0) (form_asked room cut) (form_asked room input)
      (asked_alike input 1321 long 0 (omega arith))
      (λ y. form_alike)

  module _ (headed : first_no (head_questions input room) ≡ all_yes) where
    -- a form number 1 has one byte
    formed : places_at input ≤ 1
    unfolding head_questions
    formed =
        let rest = (both_pass (number_questions input 0) (form_asked room input) headed).second in
        let one : form_in input ≡ 1 = eqb-true (form_in input) 1 (passed 10 0 (eqb (form_in input) 1) (places_asked room input) rest).here in
        place_small input 0 (omega (arith, one))

    abbrev w : ℕ
    w = W (places_in input)

    abbrev at : ℕ
    at = fourteens_at input

    few : w ≤ 9217
    few = switches_few (places_in input) (head_sized input room headed).few

    near : at ≤ 3
    near = omega (arith, formed, place_near input (places_at input))

    -- the bytes behind the fill bits are surplus
    end_no : (bytes : List ℕ) → 1321 ≤ length bytes → all_zero (drop w (bits_from bytes w at)) ≡ true
        → first_no (end_asked w at bytes) ≡ no_at 12 (place_past sevens (numbers_for w) bytes at)
    end_no bytes g z =
        let end = place_past sevens (numbers_for w) bytes at in
        asked_no 12 end (leb (length bytes) end) [] (lt-leb (length bytes) end (omega (arith, filled_near bytes w at few near z)))

    row_room : at + 2 * numbers_for w ≤ 1321
    row_room = omega (arith, few, near)

    same_bits : bits_from cut w at ≡ bits_from input w at
    unfolding bits_from cut
    same_bits = ap bits_in (row_numbers input 1321 long (numbers_for w) at row_room)

    fill_alike : first_no (fill_asked w at cut) ≡ first_no (fill_asked w at input)
    unfolding cut
    fill_alike =
        let bits = same_bits in
        let place = row-place input 1321 long (numbers_for w - 1) at (omega (arith, row_room)) in
        let end = row-place input 1321 long (numbers_for w) at row_room in
        ap (λ p. first_no (ask 11 p (all_zero (drop w (bits_from cut w at))) ∷ end_asked w at cut)) place
        ∙ ap (λ bs. first_no (ask 11 (place_past sevens (numbers_for w - 1) input at) (all_zero (drop w bs)) ∷ end_asked w at cut)) bits
        ∙ one_alike 11 (place_past sevens (numbers_for w - 1) input at) (all_zero (drop w (bits_from input w at))) (end_asked w at cut)
        (end_asked w at input)
        (λ z. end_no cut cut_long (ap (λ bs. all_zero (drop w bs)) bits ∙ z) ∙ ap (no_at 12) end ∙ sym (end_no input long z))

    body_alike : first_no (body_questions cut (W (places_in cut)) (fourteens_at cut)) ≡ first_no (body_questions input w at)
    unfolding body_questions cut
    body_alike =
        rw (places, after)
        (both_alike (numbers_questions sevens (numbers_for w) cut at) (numbers_questions sevens (numbers_for w) input at) (fill_asked w at cut)
        (fill_asked w at input)
        (row-asked input 1321 long (numbers_for w) at row_room) (λ y. fill_alike))

    surplus : first_no (body_questions input w at) ≡ all_yes → ⊥
    unfolding body_questions
    surplus e =
        let end = place_past sevens (numbers_for w) input at in
        let rest = (both_pass (numbers_questions sevens (numbers_for w) input at) (fill_asked w at input) e).second in
        let fill = passed 11 (place_past sevens (numbers_for w - 1) input at)
        (all_zero (drop w (bits_from input w at))) (end_asked w at input) rest in
        let ends = leb-true (length input) end (passed 12 end (leb (length input) end) [] fill.rest).here in
        omega (arith, ends, filled_near input w at few near fill.here)

-- such an input is refused, and by its first 1,321 bytes alike
pub read_cut : (input : List ℕ) (room : ℕ) → sheet_room ≤ length input
    → SameNo (read_questions (take sheet_room input) room) (read_questions input room)
unfolding read_questions cut
read_cut input room long =
    let part = take 1321 input in
    let body : List ℕ → List Question = λ bytes. body_questions bytes (W (places_in bytes)) (fourteens_at bytes) in
    same_no (head_questions part room ++ body part) (head_questions input room ++ body input)
    (both_alike (head_questions part room) (head_questions input room) (body part) (body input) (head_alike input room long)
    (body_alike input room long))
    (λ e.
    let B = both_pass (head_questions input room) (body input) e in
    surplus input room long B.first B.second)
