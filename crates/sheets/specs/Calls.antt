-- The two calls on sheets, whole (01, 'The questions': Write sheet, Read sheet).
-- Assumes nothing: these are definitions.
use Rattle.std.specs.Prelude.{◌≡◌, List, [], ◌∷◌, ◌++◌, ℕ, ◌-◌, ◌≤◌, leb, eqb, length, take, drop, Result, Ok, Err}
use Rattle.answers.specs.declared.Answer.{Answer}
use Rattle.answers.specs.declared.Refusal.{Refusal}
use Rattle.answers.specs.Answers.{refusal, accepted, number_of}
use Rattle.answers.specs.Questions.{Question, ask, first_no}
use Rattle.answers.specs.Outcomes.{answer_of, buffer_of, beside_of, Outcome, settled}
use Rattle.bits.specs.Bits.{Bits}
use Rattle.counts.specs.Counts.{W}
use Rattle.numbers.specs.Numbers.{number_questions, number_at, sevens}
use Rattle.numbers.specs.declared.Number.{Number}
use Rattle.rows.specs.Rows.{numbers_questions, numbers_at, place_past}
use Rattle.questions.specs.Asked.{places_few, bits_for, all_bits, ends_at, room_for}
use Rattle.sheets.specs.declared.SettingSize.{SettingSize}
use Rattle.sheets.specs.Sheet.{numbers_for, sheet}
use Rattle.sheets.specs.Reading.{bits_in, all_zero}

-- ---- write sheet: 1, 4, 7, 13

unfoldable pub write_questions : (n : ℕ) (bits : List ℕ) (room : ℕ) → List Question
write_questions n bits room =
    places_few n
    ∷ bits_for n bits
    ∷ all_bits bits
    ∷ room_for (length (sheet n bits)) room
    ∷ []

-- the sheet over the front of the output, and as count its bytes
unfoldable pub write_sheet : ℕ → List ℕ → List ℕ → Outcome
write_sheet n bits out = settled (first_no (write_questions n bits (length out))) (length (sheet n bits)) (sheet n bits) out

-- when it is accepted: at most 1,024 places, a 0 or a 1 for each switch, and room for the sheet
pub record Writable (n : ℕ) (bits out : List ℕ) : Type 0 where
  pub few : n ≤ 1024
  pub count : length bits ≡ W n
  pub are_bits : Bits bits
  pub room : length (sheet n bits) ≤ length out

-- the bytes that it wrote
abbrev pub written : Outcome → List ℕ
written o = take o.answer.count o.buffer

-- ---- read sheet: form (8, 9, 10), n (8, 9, 1), 4, each number (8, 9), 11, 12

-- the form number stands first; n, where it ends; the fourteens, where n ends
abbrev pub form_in : List ℕ → ℕ
form_in input = (number_at input 0).value

abbrev pub places_at : List ℕ → ℕ
places_at input = (number_at input 0).next

abbrev pub places_in : List ℕ → ℕ
places_in input = (number_at input (places_at input)).value

abbrev pub fourteens_at : List ℕ → ℕ
fourteens_at input = (number_at input (places_at input)).next

-- n, with the place after it
abbrev pub head_in : List ℕ → Number
head_in input = record { value = places_in input; next = fourteens_at input }

-- form, n, 4
unfoldable pub head_questions : List ℕ → ℕ → List Question
head_questions input room =
    number_questions input 0
    ++ (ask 10 0 (eqb (form_in input) 1)
    ∷ (number_questions input (places_at input)
    ++ (places_few (places_in input)
    ∷ ask 4 0 (leb (W (places_in input)) room)
    ∷ [])))

-- the bits of all the fourteens: the setting's w, and then the fill bits
unfoldable pub bits_from : List ℕ → ℕ → ℕ → List ℕ
bits_from input w at = bits_in (numbers_at sevens (numbers_for w) input at)

-- each number of the w bits from a place on, 11 at the last one's first byte, 12 at the first byte past them
unfoldable pub body_questions : List ℕ → ℕ → ℕ → List Question
body_questions input w at =
    numbers_questions sevens (numbers_for w) input at
    ++ (ask 11 (place_past sevens (numbers_for w - 1) input at) (all_zero (drop w (bits_from input w at)))
    ∷ ends_at (place_past sevens (numbers_for w) input at) input
    ∷ [])

unfoldable pub read_questions : List ℕ → ℕ → List Question
read_questions input room = head_questions input room ++ body_questions input (W (places_in input)) (fourteens_at input)

-- the setting in a sheet
unfoldable pub setting_in : List ℕ → List ℕ
setting_in input = take (W (places_in input)) (bits_from input (W (places_in input)) (fourteens_at input))

-- its bits over the front of the buffer, and as count n
unfoldable pub read_sheet : List ℕ → List ℕ → Outcome
read_sheet input buffer =
    settled (first_no (read_questions input (length buffer))) (places_in input) (setting_in input) buffer

-- ---- .. into room for the longest setting: n and W(n), or the refusal, and the bits

pub record SettingOutcome : Type 0 where
  pub answer : Answer
  pub places : ℕ
  pub switches : ℕ
  pub bits : List ℕ

-- the two numbers that stand beside the answer are 0 in a refusal
abbrev pub setting_outcome : Result SettingSize Refusal → List ℕ → SettingOutcome
setting_outcome (Ok s) bits = record { answer = accepted 0; places = s.places; switches = s.switches; bits = bits }
setting_outcome (Err r) bits = record { answer = refusal (number_of r.reason) r.place; places = 0; switches = 0; bits = bits }

-- the setting over the front of the bits where every question gets a yes, and else the bits as they were
unfoldable pub read_setting : List ℕ → List ℕ → SettingOutcome
read_setting input bits =
    record {
      answer = answer_of (first_no (read_questions input 9217)) 0;
      places = beside_of (first_no (read_questions input 9217)) (places_in input);
      switches = beside_of (first_no (read_questions input 9217)) (W (places_in input));
      bits = buffer_of (first_no (read_questions input 9217)) (setting_in input) bits;
    }
