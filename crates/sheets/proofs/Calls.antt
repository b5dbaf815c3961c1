-- The two calls, return by return.
-- Assumes nothing.
use mathlib.Core.Path.{◌≡◌, refl, sym, ap, ◌∙◌}
use mathlib.Core.List.{List}
use Prim.Native.Nat.{ℕ, ◌≤◌, ◌<◌}
use lib.ListN.{length, take}
use Rattle.std.specs.Prelude.{Ok, Err}
use Rattle.answers.specs.declared.Answer.{Answer}
use Rattle.answers.specs.declared.Refusal.{Refusal}
use Rattle.answers.specs.Answers.{refusal, accepted, number_of}
use Rattle.answers.specs.Questions.{first_bad, all_yes, no_at, first_no}
use Rattle.answers.specs.Buffers.{overlay}
use Rattle.answers.specs.Outcomes.{outcome}
use Rattle.answers.proofs.Questions.{yes_each, asked-both, asked-first}
use Rattle.answers.proofs.Outcomes.{ends_refused, ends-accepted}
use Rattle.bits.specs.Bits.{is_bit}
use Rattle.counts.specs.Counts.{W}
use Rattle.numbers.specs.Numbers.{sevens}
use Rattle.numbers.specs.declared.Number.{Number}
use Rattle.rows.specs.Rows.{numbers_at}
use Rattle.questions.proofs.Lists.{first_no_lem}
use Rattle.questions.proofs.Asked.{few_yes, few_no, count_yes, count_no, bits_yes, bits_no, room_yes, room_no}
use Rattle.sheets.specs.Sheet.{numbers_for, sheet}
use Rattle.sheets.specs.Reading.{bits_in}
use Rattle.sheets.specs.Calls.{write_questions, write_sheet, places_in, fourteens_at, head_questions, body_questions, bits_from, read_questions, read_sheet, setting_in}
use Rattle.sheets.proofs.Asking.{HeadOf, head_sized, BodyOf}

-- ---- write sheet

module _ (n : ℕ) (bits : List ℕ) (room : ℕ) where
  pub too_large : 1024 < n → first_no (write_questions n bits room) ≡ no_at 1 0
  unfolding write_questions
  too_large h = first_no_lem 0 (write_questions n bits room) (few_no n h)

  module _ (h : n ≤ 1024) where
    pub uneven : (length bits ≡ W n → ⊥) → first_no (write_questions n bits room) ≡ no_at 4 0
    unfolding write_questions
    uneven g = first_no_lem 1 (write_questions n bits room) (few_yes n h, count_no n bits g)

    module _ (g : length bits ≡ W n) where
      pub no_bit : {p : ℕ} → p ≡ first_bad (is_bit bits) (length bits) → (p ≡ length bits → ⊥) → first_no (write_questions n bits room) ≡ no_at 7 p
      unfolding write_questions
      no_bit e l =
          first_no_lem 2 (write_questions n bits room) (few_yes n h, (count_yes n bits g, bits_no bits (λ z. l (e ∙ z)))) ∙ ap (no_at 7) (sym e)

      module _ (b : first_bad (is_bit bits) (length bits) ≡ length bits) where
        pub too_short : room < length (sheet n bits) → first_no (write_questions n bits room) ≡ no_at 13 0
        unfolding write_questions
        too_short l =
            let no = room_no (length (sheet n bits)) room l in
            first_no_lem 3 (write_questions n bits room) (few_yes n h, (count_yes n bits g, (bits_yes bits b, no)))

        -- every question gets a yes
        pub write_passes : length (sheet n bits) ≤ room → first_no (write_questions n bits room) ≡ all_yes
        unfolding write_questions
        write_passes l =
            let fits = room_yes (length (sheet n bits)) room l in
            yes_each (write_questions n bits room) (few_yes n h, (count_yes n bits g, (bits_yes bits b, (fits, tt))))

module _ (n : ℕ) (bits out : List ℕ) {a : Answer} where
  pub write_refused : {q p : ℕ} → first_no (write_questions n bits (length out)) ≡ no_at q p → a ≡ refusal q p → outcome a out ≡ write_sheet n bits out
  unfolding write_sheet
  write_refused e r = ends_refused (first_no (write_questions n bits (length out))) (length (sheet n bits)) (sheet n bits) out e r refl

  pub write_accepted :
      {after : List ℕ}
      → first_no (write_questions n bits (length out)) ≡ all_yes
      → a ≡ accepted (length (sheet n bits))
      → after ≡ overlay out 0 (sheet n bits)
      → outcome a after ≡ write_sheet n bits out
  unfolding write_sheet
  write_accepted e r k = ends-accepted (first_no (write_questions n bits (length out))) (length (sheet n bits)) (sheet n bits) out e r k

-- ---- read sheet

module _ (input : List ℕ) (room : ℕ) where
  pub head_stops : (r : Refusal) → HeadOf input room (Err r) → first_no (read_questions input room) ≡ no_at (number_of r.reason) r.place
  unfolding read_questions
  head_stops r e = asked-first (head_questions input room) (body_questions input (W (places_in input)) (fourteens_at input)) e

  module _ {head : Number} (H : HeadOf input room (Ok head)) where
    pub read_count : head.value ≡ places_in input
    read_count = ap (λ (x : Number). x.value) H.1

    next_is : head.next ≡ fourteens_at input
    next_is = ap (λ (x : Number). x.next) H.1

    pub head_few : head.value ≤ 1024
    head_few = rw read_count (head_sized input room H.0).few

    pub head_fits : W head.value ≤ room
    head_fits = rw read_count (head_sized input room H.0).fits

    module _ {w : ℕ} (c : w ≡ W head.value) where
      same : body_questions input w head.next ≡ body_questions input (W (places_in input)) (fourteens_at input)
      same = rw (c, read_count, next_is)

      to_body : first_no (read_questions input room) ≡ first_no (body_questions input w head.next)
      unfolding read_questions
      to_body = asked-both (head_questions input room) (body_questions input (W (places_in input)) (fourteens_at input)) H.0 ∙ sym (ap first_no same)

      pub body_stops : {values : List ℕ} (r : Refusal) → BodyOf input w head.next values (Err r) → first_no (read_questions input room) ≡ no_at (number_of r.reason) r.place
      body_stops r R = to_body ∙ R.answer

      module _ {values : List ℕ} {k : ℕ} (R : BodyOf input w head.next values (Ok k)) where
        pub read_passes : first_no (read_questions input room) ≡ all_yes
        read_passes = to_body ∙ R.answer.0

        pub read_bits : take w (bits_in (take k values)) ≡ setting_in input
        unfolding bits_from setting_in
        read_bits =
            let row : take k values ≡ numbers_at sevens (numbers_for w) input head.next = rw R.answer.1 (R.numbers R.answer.0) in
            rw row (rw (c, read_count, next_is))

module _ (input bits : List ℕ) {a : Answer} where
  pub read_refused : {q p : ℕ} → first_no (read_questions input (length bits)) ≡ no_at q p → a ≡ refusal q p → outcome a bits ≡ read_sheet input bits
  unfolding read_sheet
  read_refused e r = ends_refused (first_no (read_questions input (length bits))) (places_in input) (setting_in input) bits e r refl

  pub read_accepted :
      {after : List ℕ}
      → first_no (read_questions input (length bits)) ≡ all_yes
      → a ≡ accepted (places_in input)
      → after ≡ overlay bits 0 (setting_in input)
      → outcome a after ≡ read_sheet input bits
  unfolding read_sheet
  read_accepted e r k = ends-accepted (first_no (read_questions input (length bits))) (places_in input) (setting_in input) bits e r k
