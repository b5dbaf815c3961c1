-- What is written is read back, stated over the two calls' outcomes; and when each call is accepted.
-- Assumes nothing.
use mathlib.Core.Path.{◌≡◌, refl, sym, ap, ◌∙◌}
use mathlib.Core.Bool.{true}
use mathlib.Core.List.{List, [], ◌++◌, append_assoc, append-nil}
use Prim.Native.Nat.{ℕ, ◌+◌, ◌≤◌}
use native.Mathlib.Omega.{arith}
use lib.ListN.{length, take, drop, length-append}
use lib.Seq.{take_all}
use Rattle.answers.specs.Answers.{accepted}
use Rattle.std.specs.Prelude.{Ok}
use Rattle.answers.specs.Questions.{all_yes, first_no, Numbered}
use Rattle.answers.specs.Buffers.{overlay}
use Rattle.answers.specs.Outcomes.{outcome}
use Rattle.answers.proofs.Questions.{each_yes}
use Rattle.answers.proofs.Buffers.{overlay_read}
use Rattle.answers.proofs.Outcomes.{accepted_when, numbered_both}
use Rattle.bits.specs.Bits.{Bits}
use Rattle.bits.proofs.Bytes.{all_bits_lem}
use Rattle.counts.specs.Counts.{W}
use Rattle.numbers.specs.Numbers.{number_bytes, number_questions, sevens, Reads}
use Rattle.numbers.proofs.Numbers.{numbered, number-back}
use Rattle.rows.specs.Rows.{numbers_bytes, numbers_questions, numbers_at, place_past, row_end}
use Rattle.rows.proofs.Rows.{Back, row_back, numbered_row}
use Rattle.rows.proofs.Reading.{RowOf}
use Rattle.questions.proofs.Asked.{few_means, count_means, bits_means, room_means}
use Rattle.sheets.specs.Sheet.{numbers_for, fourteens, sheet}
use Rattle.sheets.specs.Reading.{bits_in, all_zero}
use Rattle.sheets.specs.Calls.{write_questions, write_sheet, Writable, written}
use Rattle.sheets.specs.Calls.{places_at, places_in, fourteens_at, head_questions, body_questions, read_questions, read_sheet}
use Rattle.sheets.proofs.Unpacking.{fourteens-fit, fourteens-length, setting-back, fill_back}
use Rattle.sheets.proofs.Asking.{head_done, body_done}
use Rattle.sheets.proofs.Calls.{write_passes, write_accepted, read_passes, read_count, read_bits, read_accepted}

-- ---- a sheet is read back

module _ (n : ℕ) (bits : List ℕ) (few : n ≤ 1024) (count : length bits ≡ W n) (h : Bits bits) where
  -- the numbers of the bits, and what stands before them
  numbers : List ℕ
  numbers = fourteens (numbers_for (W n)) bits

  front : List ℕ
  front = number_bytes 1 ++ number_bytes n

  shape : sheet n bits ≡ number_bytes 1 ++ (number_bytes n ++ numbers_bytes sevens numbers)
  unfolding sheet numbers_bytes numbers
  shape = rw count

  form_there : Reads sevens (sheet n bits) 0 1 (length (number_bytes 1))
  form_there =
      let z : 0 + length (number_bytes 1) ≡ length (number_bytes 1) = omega arith in
      rw (← z, shape) (number-back [] (number_bytes n ++ numbers_bytes sevens numbers) 1 (omega arith))

  places_there : Reads sevens (sheet n bits) (length (number_bytes 1)) n (length front)
  unfolding front
  places_there = rw (length-append (number_bytes 1) (number_bytes n), shape) (number-back (number_bytes 1) (numbers_bytes sevens numbers) n (omega arith))

  row_there : Back sevens (sheet n bits) (length front) numbers (length front + length (numbers_bytes sevens numbers))
  unfolding front numbers
  row_there =
      row_back sevens number-back numbers (sheet n bits) front [] (shape ∙ sym (append_assoc (number_bytes 1) (number_bytes n) (numbers_bytes sevens numbers ++ []) ∙ rw append-nil))
      (fourteens-fit (numbers_for (W n)) bits h)

  long : length numbers ≡ numbers_for (W n)
  unfolding numbers
  long = fourteens-length (numbers_for (W n)) bits

  row_of :
      RowOf sevens (sheet n bits) (length front) (numbers_for (W n)) numbers
      (Ok (row_end sevens (numbers_for (W n)) (sheet n bits) (length front)))
  row_of =
      let asked : first_no (numbers_questions sevens (numbers_for (W n)) (sheet n bits) (length front)) ≡ all_yes = rw long at row_there.asked in
      let there : numbers_at sevens (numbers_for (W n)) (sheet n bits) (length front) ≡ numbers = rw long at row_there.numbers in
      record { answer = (asked, refl); numbers = λ y. take_all (numbers_for (W n)) numbers (omega (arith, long)) ∙ sym there }

  whole : length (sheet n bits) ≤ place_past sevens (numbers_for (W n)) (sheet n bits) (length front)
  unfolding front
  whole =
      let place : place_past sevens (numbers_for (W n)) (sheet n bits) (length front) ≡ length front + length (numbers_bytes sevens numbers) = rw long at row_there.place in
      omega (
        arith,
        place,
        ap length shape,
        length-append (number_bytes 1) (number_bytes n ++ numbers_bytes sevens numbers),
        length-append (number_bytes n) (numbers_bytes sevens numbers),
        length-append (number_bytes 1) (number_bytes n),
      )

  pub sheet_read : (buffer : List ℕ) → W n ≤ length buffer → read_sheet (sheet n bits) buffer ≡ outcome (accepted n) (overlay buffer 0 bits)
  unfolding numbers
  sheet_read buffer g =
      let s = sheet n bits in
      let k = numbers_for (W n) in
      let all : take k numbers ≡ numbers = take_all k numbers (omega (arith, long)) in
      let fill : true ≡ all_zero (drop (W n) (bits_in (take k numbers))) = rw all (sym (fill_back bits (W n) h count)) in
      let head = head_done s (length buffer) form_there refl places_there few g in
      let body = body_done s (W n) (length front) {values = numbers} row_of fill whole in
      let back : take (W n) (bits_in (take k numbers)) ≡ bits = rw all (setting-back bits (W n) h count) in
      sym
      (read_accepted s buffer (read_passes s (length buffer) head refl body) (ap accepted (read_count s (length buffer) head))
      (ap (overlay buffer 0) (sym back ∙ read_bits s (length buffer) head refl body)))

-- ---- when write sheet is accepted

pub write_accepts :
    (n : ℕ) (bits out : List ℕ)
    → Writable n bits out
    → write_sheet n bits out ≡ outcome (accepted (length (sheet n bits))) (overlay out 0 (sheet n bits))
write_accepts n bits out ok =
    sym
    (write_accepted n bits out (write_passes n bits (length out) ok.few ok.count (all_bits_lem bits ok.are_bits) ok.room) refl refl)

pub write_only : (n : ℕ) (bits out : List ℕ) → (write_sheet n bits out).answer.number ≡ 0 → Writable n bits out
unfolding write_sheet write_questions
write_only n bits out e =
    let all = accepted_when (write_questions n bits (length out)) (length (sheet n bits)) (omega arith, (omega arith, (omega arith, (omega arith, tt)))) e in
    let y = each_yes (write_questions n bits (length out)) all in
    record {
      few = few_means n y.0;
      count = count_means n bits y.1.0;
      are_bits = bits_means bits y.1.1.0;
      room = room_means (length (sheet n bits)) (length out) y.1.1.1.0;
    }

-- ---- when read sheet is accepted

-- each question's number is above 0
pub numbered_read : (input : List ℕ) (room : ℕ) → Numbered (read_questions input room)
unfolding read_questions head_questions body_questions
numbered_read input room =
    numbered_both (head_questions input room) (body_questions input (W (places_in input)) (fourteens_at input))
    (numbered_both (number_questions input 0) _ (numbered input 0)
    (omega arith, numbered_both (number_questions input (places_at input)) _ (numbered input (places_at input)) (omega arith, (omega arith, tt))))
    (numbered_both (numbers_questions sevens (numbers_for (W (places_in input))) input (fourteens_at input)) _
    (numbered_row sevens input (numbered input) (numbers_for (W (places_in input))) (fourteens_at input)) (omega arith, (omega arith, tt)))

-- number 0 only where every question gets a yes
pub read_only : (input buffer : List ℕ) → (read_sheet input buffer).answer.number ≡ 0 → first_no (read_questions input (length buffer)) ≡ all_yes
unfolding read_sheet
read_only input buffer e = accepted_when (read_questions input (length buffer)) (places_in input) (numbered_read input (length buffer)) e

-- ---- the round trip: what an accepted write wrote is read back as n and those bits, into any buffer with room for them

pub round_trip :
    (n : ℕ) (bits out buffer : List ℕ)
    → (write_sheet n bits out).answer.number ≡ 0
    → W n ≤ length buffer
    → read_sheet (written (write_sheet n bits out)) buffer ≡ outcome (accepted n) (overlay buffer 0 bits)
round_trip n bits out buffer e g =
    let ok = write_only n bits out e in
    let bytes : take (length (sheet n bits)) (overlay out 0 (sheet n bits)) ≡ sheet n bits = overlay_read out (sheet n bits) in
    rw (write_accepts n bits out ok) (rw bytes (sheet_read n bits ok.few ok.count ok.are_bits buffer g))
