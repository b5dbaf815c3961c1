-- The text of an input, question by question; and the program, which reads at most 2 bytes, prints what the whole input would give:
-- a length of 6 or less has one byte, so that a longer input has a surplus byte among those read; and a length over 6 is refused
-- whatever stands behind it.
-- Assumes nothing.
use mathlib.Core.Path.{◌≡◌, refl, sym, ap, ◌∙◌}
use mathlib.Core.Bool.{true}
use mathlib.Core.List.{List}
use Prim.Native.Nat.{ℕ, ◌≤◌, ◌<◌}
use native.Mathlib.Omega.{arith}
use native.Mathlib.Decide.{dec_lt}
use lib.ListN.{length, take}
use lib.Seq.{length-take-le, take_all}
use Rattle.answers.specs.Questions.{Verdict, all_yes, no_at, first_no}
use Rattle.answers.specs.Buffers.{Put}
use Rattle.answers.proofs.Questions.{each_yes, yes_each, both_pass, asked-both, asked-first}
use Rattle.numbers.specs.Numbers.{number_questions, NumberAnswer, sevens, Reads}
use Rattle.numbers.proofs.Reach.{place_small, asked_alike, read_alike}
use Rattle.questions.specs.Asked.{listable}
use Rattle.questions.proofs.Lists.{first_no_lem}
use Rattle.questions.proofs.Asked.{listable_yes, listable_no, listable_means, end_yes, end_no}
use Rattle.cmd_text.specs.Text.{refusal_line}
use Rattle.cmd_text.specs.Written.{written}
use Rattle.cmd_text.proofs.Written.{text-written}
use Rattle.cmd_list.specs.Listing.{length_in, past_length, length_questions, list_questions, text_of, orders_text, list_room, list_call}

-- a text that was put at the front of the buffer, where it is the input's
pub prints :
    (input : List ℕ) {text before after : List ℕ} {r : ℕ}
    → orders_text input ≡ text
    → Put before 0 text r after
    → written r after ≡ list_call input before
prints input e P = rw e (text-written P)

-- ---- question by question

module _ (input : List ℕ) where
  pub text_of_lem : {v : Verdict} → first_no (list_questions input) ≡ v → orders_text input ≡ text_of v input
  unfolding orders_text
  text_of_lem e = ap (λ v. text_of v input) e

  pub number_no : {q p : ℕ} → first_no (number_questions input 0) ≡ no_at q p → first_no (list_questions input) ≡ no_at q p
  unfolding list_questions
  number_no e = asked-first (number_questions input 0) (length_questions input) e

  no_number : {q p : ℕ} → first_no (number_questions input 0) ≡ no_at q p → orders_text input ≡ refusal_line q p
  no_number e = text_of_lem (number_no e)

  module _ {n next : ℕ} (N : Reads sevens input 0 n next) where
    past-number : {v : Verdict} → first_no (length_questions input) ≡ v → first_no (list_questions input) ≡ v
    unfolding list_questions
    past-number e = asked-both (number_questions input 0) (length_questions input) N.asked ∙ e

    pub too_long_no : 6 < n → first_no (list_questions input) ≡ no_at 17 0
    too_long_no h = past-number (first_no_lem 0 (length_questions input) (listable_no (length_in input) (omega (arith, N.value))))

    pub too_long : 6 < n → orders_text input ≡ refusal_line 17 0
    too_long h = text_of_lem (too_long_no h)

    module _ (short : n ≤ 6) where
      asked : (listable (length_in input)).yes ≡ true
      asked = listable_yes (length_in input) (omega (arith, N.value))

      pub surplus_no : next < length input → first_no (list_questions input) ≡ no_at 12 next
      surplus_no h =
          let goes_on = end_no (past_length input) input (omega (arith, N.next)) in
          past-number (first_no_lem 1 (length_questions input) (asked, goes_on)) ∙ ap (no_at 12) N.next

      pub surplus : next < length input → orders_text input ≡ refusal_line 12 next
      surplus h = text_of_lem (surplus_no h)

      pub length_yes : length input ≤ next → first_no (list_questions input) ≡ all_yes
      length_yes h =
          let ends = end_yes (past_length input) input (omega (arith, N.next)) in
          past-number (yes_each (length_questions input) (asked, (ends, tt)))

  -- the length that was read is short
  pub short_length : first_no (list_questions input) ≡ all_yes → length_in input ≤ 6
  unfolding list_questions
  short_length e =
      listable_means (length_in input) (each_yes (length_questions input) (both_pass (number_questions input 0) (length_questions input) e).second).0

-- ---- two bytes are enough

module _ (input : List ℕ) (long : list_room ≤ length input) where
  abbrev part : List ℕ
  part = take list_room input

  read : first_no (number_questions input 0) ≡ all_yes → Reads sevens input 0 (length_in input) (past_length input)
  read t = record { asked = t; value = refl; next = refl }

  -- the first two bytes give the same number
  part_read : first_no (number_questions input 0) ≡ all_yes → Reads sevens part 0 (length_in input) (past_length input)
  part_read t =
      let same = read_alike input list_room long 0 (omega arith) in
      record {
        asked = asked_alike input list_room long 0 (omega arith) ∙ t;
        value = ap (λ (a : NumberAnswer). a.value) same;
        next = ap (λ (a : NumberAnswer). a.next) same;
      }

  text_alike : orders_text part ≡ orders_text input
  text_alike = go (first_no (number_questions input 0)) refl
    where
      -- a length of 6 or less has one byte
      sized : first_no (number_questions input 0) ≡ all_yes → Dec (6 < length_in input) → orders_text part ≡ orders_text input
      sized t (yes h) = too_long part (part_read t) h ∙ sym (too_long input (read t) h)
      sized t (no h) =
          let near = place_small input 0 (omega arith) in
          surplus part (part_read t) (omega arith) (omega (arith, length-take-le list_room input long, near))
          ∙ sym (surplus input (read t) (omega arith) (omega (arith, long, near)))

      go : (v : Verdict) → first_no (number_questions input 0) ≡ v → orders_text part ≡ orders_text input
      go all_yes t = sized t (dec_lt 6 (length_in input))
      go (no_at q p) t = no_number part (asked_alike input list_room long 0 (omega arith) ∙ t) ∙ sym (no_number input t)

pub list_cut : (input : List ℕ) → orders_text (take list_room input) ≡ orders_text input
list_cut input = go (dec_lt (length input) list_room)
  where
    go : Dec (length input < list_room) → orders_text (take list_room input) ≡ orders_text input
    go (yes h) = ap orders_text (take_all list_room input (omega arith))
    go (no h) = text_alike input (omega arith)
