-- The setting in a sheet: its length, its bits, and what reading it into room for the longest setting comes to.
-- Assumes nothing.
use mathlib.Core.Path.{◌≡◌, sym, ap, ◌∙◌}
use mathlib.Core.List.{List}
use Prim.Native.Nat.{ℕ, ◌*◌, ◌≤◌}
use native.Mathlib.Nat.{mod-lt}
use native.Mathlib.Omega.{arith}
use native.Mathlib.Decide.{dec_lt}
use lib.ListN.{length, take, get_or-eq_default, length-take}
use lib.Seq.{length-take-le}
use Rattle.std.specs.Prelude.{Ok, Err}
use Rattle.answers.specs.declared.Answer.{Answer}
use Rattle.answers.specs.declared.Refusal.{Refusal}
use Rattle.answers.specs.Answers.{number_of, answer_from}
use Rattle.answers.specs.Questions.{Verdict, all_yes, no_at, first_no}
use Rattle.answers.specs.Outcomes.{answer_of, buffer_of, Outcome, outcome}
use Rattle.answers.proofs.Questions.{both_pass}
use Rattle.answers.proofs.Results.{err_no, ok_yes}
use Rattle.answers.proofs.Buffers.{overlay_taken}
use Rattle.bits.specs.Bits.{Bits}
use Rattle.counts.specs.Counts.{W}
use Rattle.numbers.specs.Numbers.{sevens}
use Rattle.rows.specs.Rows.{numbers_at}
use Rattle.rows.proofs.Rows.{numbers_length}
use Rattle.sheets.specs.declared.SettingSize.{SettingSize}
use Rattle.sheets.specs.Sheet.{numbers_for}
use Rattle.sheets.specs.Reading.{bits_in}
use Rattle.sheets.specs.Calls.{places_in, fourteens_at, head_questions, body_questions, bits_from, read_questions, setting_in, read_sheet, SettingOutcome, setting_outcome, read_setting}
use Rattle.sheets.proofs.Asking.{Sized, head_sized}
use Rattle.sheets.proofs.Unpacking.{bits_length, bit_at, bits_take}
use Rattle.sheets.proofs.Round.{numbered_read}

-- a bit for each switch
pub setting-length : (sheet : List ℕ) → length (setting_in sheet) ≡ W (places_in sheet)
unfolding setting_in bits_from
setting-length sheet =
    let w = W (places_in sheet) in
    let row = numbers_at sevens (numbers_for w) sheet (fourteens_at sheet) in
    length-take-le w _ (omega (arith, bits_length row, numbers_length sevens sheet (numbers_for w) (fourteens_at sheet)))

-- the bits in numbers are bits, and so is the setting
are_bits : (vs : List ℕ) → Bits (bits_in vs)
unfolding Bits
are_bits vs i = elim (dec_lt i (14 * length vs)) [
  | yes l ↦ rw (bit_at vs i l) (mod-lt _ (omega arith))
  | no l ↦ rw (get_or-eq_default (bits_in vs) 0 {n = i} (omega (arith, bits_length vs))) (omega arith)
]

pub setting_bits : (sheet : List ℕ) → Bits (setting_in sheet)
unfolding setting_in bits_from
setting_bits sheet = bits_take (W (places_in sheet)) _ (are_bits (numbers_at sevens (numbers_for (W (places_in sheet))) sheet (fourteens_at sheet)))

-- a sheet whose questions all get a yes has at most 1,024 places, and a setting that fits
pub passed_sized : (sheet : List ℕ) (room : ℕ) → first_no (read_questions sheet room) ≡ all_yes → Sized sheet room
unfolding read_questions
passed_sized sheet room e =
    head_sized sheet room (both_pass (head_questions sheet room) (body_questions sheet (W (places_in sheet)) (fourteens_at sheet)) e).first

-- ---- what `read_sheet` leaves in room for the longest setting, return by return of `read_setting`

module _ (sheet before : List ℕ) (room : length before ≡ 9217) where
  abbrev verdict : Verdict
  verdict = first_no (read_questions sheet 9217)

  module _ {a : Answer} {bits : List ℕ} (e : outcome a bits ≡ read_sheet sheet before) where
    told : a ≡ answer_of verdict (places_in sheet)
    unfolding read_sheet
    told = ap (λ (o : Outcome). o.answer) e ∙ rw room

    left : bits ≡ buffer_of verdict (setting_in sheet) before
    unfolding read_sheet
    left = ap (λ (o : Outcome). o.buffer) e ∙ rw room

  pub setting_refused : {bits : List ℕ} (r : Refusal) → outcome (answer_from (Err r)) bits ≡ read_sheet sheet before → setting_outcome (Err r) bits ≡ read_setting sheet before
  unfolding read_setting
  setting_refused r e =
      let no : verdict ≡ no_at (number_of r.reason) r.place = err_no (λ n. n) r verdict (places_in sheet) (told e) in
      rw (left e, no)

  module _ {bits : List ℕ} {n : ℕ} (e : outcome (answer_from (Ok n)) bits ≡ read_sheet sheet before) where
    passed : verdict ≡ all_yes
    passed = ok_yes (λ n. n) (read_questions sheet 9217) (numbered_read sheet 9217) n (places_in sheet) (told e)

    places : n ≡ places_in sheet
    places = ap (λ (a : Answer). a.count) (told e) ∙ rw passed

    pub read_few : n ≤ 1024
    read_few = rw places (passed_sized sheet 9217 passed).few

    pub setting_read : {w : ℕ} → w ≡ W n → setting_outcome (Ok (record { places = n; switches = w })) bits ≡ read_setting sheet before
    unfolding read_setting
    setting_read c = rw (left e, passed, c, places)

-- ---- what a caller of `read_setting` has

module _ (sheet before : List ℕ) where
  setting-told : {o : SettingOutcome} → o ≡ read_setting sheet before → o.answer ≡ answer_of (first_no (read_questions sheet 9217)) 0
  unfolding read_setting
  setting-told e = ap (λ (o : SettingOutcome). o.answer) e

  pub setting_stops : {bits : List ℕ} (r : Refusal) → setting_outcome (Err r) bits ≡ read_setting sheet before
      → first_no (read_questions sheet 9217) ≡ no_at (number_of r.reason) r.place
  setting_stops r e = err_no {A = SettingSize} (λ _. 0) r (first_no (read_questions sheet 9217)) 0 (setting-told e)

  module _ {bits : List ℕ} {s : SettingSize} (e : setting_outcome (Ok s) bits ≡ read_setting sheet before) where
    pub setting_asked : first_no (read_questions sheet 9217) ≡ all_yes
    setting_asked = ok_yes (λ _. 0) (read_questions sheet 9217) (numbered_read sheet 9217) s 0 (setting-told e)

    pub setting_places : s.places ≡ places_in sheet
    unfolding read_setting
    setting_places = ap (λ (o : SettingOutcome). o.places) e ∙ rw setting_asked

    setting_switches : s.switches ≡ W (places_in sheet)
    unfolding read_setting
    setting_switches = ap (λ (o : SettingOutcome). o.switches) e ∙ rw setting_asked

    pub setting_few : s.places ≤ 1024
    setting_few = rw setting_places (passed_sized sheet 9217 setting_asked).few

    pub setting_fits : W s.places ≤ 9217
    setting_fits = rw setting_places (passed_sized sheet 9217 setting_asked).fits

    pub setting_there : take s.switches bits ≡ setting_in sheet
    unfolding read_setting
    setting_there =
        rw setting_switches
        (overlay_taken before (ap (λ (o : SettingOutcome). o.bits) e ∙ rw setting_asked) (setting-length sheet))

    pub setting_room : s.switches ≤ length bits
    setting_room = omega (arith, ap length setting_there, setting-length sheet, setting_switches, length-take s.switches bits)

    pub setting-count : length (take s.switches bits) ≡ W s.places
    setting-count = ap length setting_there ∙ setting-length sheet ∙ sym (ap W setting_places)

    pub setting_are_bits : Bits (take s.switches bits)
    setting_are_bits = rw setting_there (setting_bits sheet)
