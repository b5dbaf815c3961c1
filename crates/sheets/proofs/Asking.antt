-- The questions on reading a sheet, return by return of the functions that ask them.
-- Assumes nothing.
use mathlib.Core.Path.{◌≡◌, refl, sym, ap, ◌∙◌}
use mathlib.Core.Bool.{Bool, true, false}
use mathlib.Core.List.{List, [], ◌∷◌}
use Prim.Native.Nat.{ℕ, ◌-◌, ◌≤◌, ◌<◌}
use native.Mathlib.Omega.{arith}
use lib.Dec.{leb, eqb}
use lib.ListN.{length, take, drop}
use borrow.Author.Tests.{le-leb, lt-leb, eq-eqb, ne_eqb, leb-true}
use Rattle.std.specs.Prelude.{Result, Ok, Err}
use Rattle.answers.specs.declared.Reason.TheVariants.{Places, BitCount, FormNumber, FillBits, InputEnd}
use Rattle.answers.specs.declared.Refusal.{Refusal}
use Rattle.answers.specs.Answers.{number_of}
use Rattle.answers.specs.Questions.{Question, ask, Verdict, all_yes, no_at, first_no}
use Rattle.answers.proofs.Questions.{each_yes, yes_each, asked-both, asked-first}
use Rattle.counts.specs.Counts.{W}
use Rattle.numbers.specs.Numbers.{number_questions, number_at, sevens, Reads}
use Rattle.numbers.specs.Reading.{meaning, ReadAs}
use Rattle.numbers.specs.declared.Number.{Number}
use Rattle.numbers.proofs.Numbers.{refused}
use Rattle.questions.specs.Asked.{places_few, ends_at}
use Rattle.questions.proofs.Lists.{first_no_lem}
use Rattle.questions.proofs.Parts.{joined, part_no, parts_pass, each_passes}
use Rattle.questions.proofs.Asked.{few_yes, few_no, few_means, end_yes, end_no}
use Rattle.rows.specs.declared.RowEnd.{RowEnd}
use Rattle.rows.specs.Rows.{numbers_questions, numbers_at, place_past, Row}
use Rattle.rows.proofs.Reading.{row_refused, RowOf}
use Rattle.sheets.specs.Sheet.{numbers_for}
use Rattle.sheets.specs.Reading.{bits_in, all_zero}
use Rattle.sheets.specs.Calls.{form_in, places_at, places_in, fourteens_at, head_in, head_questions, body_questions, bits_from}

-- a refusal that a function made
pub refusal_as : {r r' : Refusal} {v : Verdict} → r ≡ r' → v ≡ no_at (number_of r'.reason) r'.place → v ≡ no_at (number_of r.reason) r.place
refusal_as e n = rw e n

-- ---- the form, n, and room for the bits

abbrev form_asked : List ℕ → List Question
form_asked input = ask 10 0 (eqb (form_in input) 1) ∷ []

abbrev size_asked : List ℕ → ℕ → List Question
size_asked input room = places_few (places_in input) ∷ ask 4 0 (leb (W (places_in input)) room) ∷ []

abbrev head_parts : List ℕ → ℕ → List (List Question)
head_parts input room =
    number_questions input 0 ∷ form_asked input ∷ number_questions input (places_at input) ∷ size_asked input room ∷ []

-- what `read_head` promises
abbrev pub HeadOf : List ℕ → ℕ → Result Number Refusal → Type 0
HeadOf input room r = ReadAs (first_no (head_questions input room)) (head_in input) r

module _ (input : List ℕ) (room : ℕ) where
  head_no : (r : Refusal) → first_no (joined (head_parts input room)) ≡ no_at (number_of r.reason) r.place → HeadOf input room (Err r)
  unfolding head_questions
  head_no r e = e

  pub form_stops : (r : Refusal) → meaning (Err r) ≡ number_at input 0 → HeadOf input room (Err r)
  form_stops r e = head_no r (part_no 0 (head_parts input room) (refused input 0 r e))

  module _ {form at : ℕ} (F : Reads sevens input 0 form at) where
    pub form_wrong : (form ≡ 1 → ⊥) → HeadOf input room (Err (record { reason = FormNumber; place = 0 }))
    form_wrong h =
        let no = first_no_lem 0 (form_asked input) (ne_eqb (form_in input) 1 (λ z. h (sym F.value ∙ z))) in
        head_no (record { reason = FormNumber; place = 0 }) (part_no 1 (head_parts input room) (F.asked, no))

    module _ (one : form ≡ 1) where
      formed : first_no (form_asked input) ≡ all_yes
      formed = yes_each (form_asked input) (eq-eqb (form_in input) 1 (F.value ∙ one), tt)

      pub places_stop : (r : Refusal) → meaning (Err r) ≡ number_at input at → HeadOf input room (Err r)
      places_stop r e =
          let there : meaning (Err r) ≡ number_at input (places_at input) = e ∙ ap (number_at input) (sym F.next) in
          head_no r (part_no 2 (head_parts input room) (F.asked, (formed, refused input (places_at input) r there)))

      module _ {n next : ℕ} (N : Reads sevens input at n next) where
        places_value : places_in input ≡ n
        places_value = ap (λ p. (number_at input p).value) F.next ∙ N.value

        places_read : first_no (number_questions input (places_at input)) ≡ all_yes
        places_read = rw F.next N.asked

        size_stops : (r : Refusal) → first_no (size_asked input room) ≡ no_at (number_of r.reason) r.place → HeadOf input room (Err r)
        size_stops r e = head_no r (part_no 3 (head_parts input room) (F.asked, (formed, (places_read, e))))

        pub places_large : 1024 < n → HeadOf input room (Err (record { reason = Places; place = 0 }))
        places_large h = size_stops (record { reason = Places; place = 0 }) (first_no_lem 0 (size_asked input room) (few_no (places_in input) (omega (arith, places_value))))

        few : n ≤ 1024 → (places_few (places_in input)).yes ≡ true
        few h = few_yes (places_in input) (omega (arith, places_value))

        pub room_short : n ≤ 1024 → room < W n → HeadOf input room (Err (record { reason = BitCount; place = 0 }))
        room_short h g =
            size_stops (record { reason = BitCount; place = 0 })
            (first_no_lem 1 (size_asked input room) (few h, lt-leb (W (places_in input)) room (rw places_value g)))

        pub head_done : n ≤ 1024 → W n ≤ room → HeadOf input room (Ok (record { value = n; next = next }))
        unfolding head_questions
        head_done h g =
            let after : fourteens_at input ≡ next = ap (λ p. (number_at input p).next) F.next ∙ N.next in
            let sized = yes_each (size_asked input room) (few h, (le-leb (W (places_in input)) room (rw places_value g), tt)) in
            (parts_pass (head_parts input room) (F.asked, (formed, (places_read, (sized, tt)))), rw (places_value, after))

  -- what a head that passes says of n
  pub record Sized : Type 0 where
    pub few : places_in input ≤ 1024
    pub fits : W (places_in input) ≤ room

  pub head_sized : first_no (head_questions input room) ≡ all_yes → Sized
  unfolding head_questions
  head_sized e =
      let y = each_yes (size_asked input room) (each_passes (head_parts input room) e).1.1.1.0 in
      record { few = few_means (places_in input) y.0; fits = leb-true (W (places_in input)) room y.1.0 }

-- ---- the numbers, the fill bits, the end

-- what `read_body` promises: how many numbers there are, and those
abbrev pub BodyOf : List ℕ → ℕ → ℕ → List ℕ → Result ℕ Refusal → Type 0
BodyOf input w at values r =
    Row (body_questions input w at) (numbers_for w) (numbers_for w) (numbers_at sevens (numbers_for w) input at) values r

module _ (input : List ℕ) (w at : ℕ) where
  abbrev row_asked : List Question
  row_asked = numbers_questions sevens (numbers_for w) input at

  abbrev past : ℕ
  past = place_past sevens (numbers_for w) input at

  abbrev last_asked : List Question
  last_asked = ask 11 (place_past sevens (numbers_for w - 1) input at) (all_zero (drop w (bits_from input w at))) ∷ ends_at past input ∷ []

  pub body_stops : {values : List ℕ} (r : Refusal) → RowOf sevens input at (numbers_for w) values (Err r) → BodyOf input w at values (Err r)
  unfolding body_questions
  body_stops r R = row_refused r (asked-first row_asked last_asked R.answer)

  module _ {values : List ℕ} {end : RowEnd} (R : RowOf sevens input at (numbers_for w) values (Ok end)) where
    pub row_there : take (numbers_for w) values ≡ numbers_at sevens (numbers_for w) input at
    row_there = R.numbers R.answer.0

    last_is : end.last ≡ place_past sevens (numbers_for w - 1) input at
    last_is = ap (λ (e : RowEnd). e.last) R.answer.1

    next_is : end.next ≡ past
    next_is = ap (λ (e : RowEnd). e.next) R.answer.1

    row_read : first_no (body_questions input w at) ≡ first_no last_asked
    unfolding body_questions
    row_read = asked-both row_asked last_asked R.answer.0

    same_fill : {b : Bool} → b ≡ all_zero (drop w (bits_in (take (numbers_for w) values))) → all_zero (drop w (bits_from input w at)) ≡ b
    unfolding bits_from
    same_fill e = sym (e ∙ rw row_there)

    pub body_fill : false ≡ all_zero (drop w (bits_in (take (numbers_for w) values)))
        → BodyOf input w at values (Err (record { reason = FillBits; place = end.last }))
    body_fill e = row_refused _ (row_read ∙ first_no_lem 0 last_asked (same_fill e) ∙ ap (no_at 11) (sym last_is))

    module _ (e : true ≡ all_zero (drop w (bits_in (take (numbers_for w) values)))) where
      pub body_surplus : end.next < length input → BodyOf input w at values (Err (record { reason = InputEnd; place = end.next }))
      body_surplus h =
          let no = end_no past input (omega (arith, next_is)) in
          row_refused _ (row_read ∙ first_no_lem 1 last_asked (same_fill e, no) ∙ ap (no_at 12) (sym next_is))

      pub body_done : length input ≤ end.next → BodyOf input w at values (Ok (numbers_for w))
      body_done h =
          let ends = end_yes past input (omega (arith, next_is)) in
          let all : first_no (body_questions input w at) ≡ all_yes = row_read ∙ yes_each last_asked (same_fill e, (ends, tt)) in
          record { answer = (all, refl); numbers = λ y. row_there }
