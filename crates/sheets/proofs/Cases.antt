-- 01's starred cases that touch sheets alone, as one table with one claim.
-- Assumes nothing.
use mathlib.Core.Path.{◌≡◌, refl}
use mathlib.Core.List.{List, [], ◌∷◌, map}
use Prim.Native.Nat.{ℕ}
use lib.ListN.{length, replicate}
use Rattle.answers.specs.Answers.{refusal, accepted}
use Rattle.answers.specs.Buffers.{overlay}
use Rattle.answers.specs.Questions.{first_bad_from}
use Rattle.answers.specs.Outcomes.{Outcome, outcome}
use Rattle.counts.specs.Counts.{W, by_halves}
use Rattle.numbers.specs.Numbers.{number_bytes, number_questions, number_at}
use Rattle.rows.specs.Rows.{numbers_bytes, numbers_questions, numbers_at, place_past}
use Rattle.sheets.specs.Sheet.{bits_number, fourteens, sheet}
use Rattle.sheets.specs.Reading.{low_bits, bits_in, all_zero}
use Rattle.sheets.specs.Calls.{write_questions, write_sheet, head_questions, bits_from, body_questions, read_questions, read_sheet, setting_in}

-- a setting and its sheet; a sheet that is refused, with the question and the place
pub data Case : Type 0 where
  writes : ℕ → List ℕ → List ℕ → Case
  refuses : List ℕ → ℕ → ℕ → Case

-- writing goes over an output of just the sheet's length, all 255; reading, over 21 bytes of 255
abbrev pub buffer : ℕ → List ℕ
buffer n = replicate n 255

abbrev pub run : Case → Outcome
run (writes n bits bytes) = write_sheet n bits (buffer (length bytes))
run (refuses bytes q p) = read_sheet bytes (buffer 21)

abbrev pub expected : Case → Outcome
expected (writes n bits bytes) = outcome (accepted (length bytes)) bytes
expected (refuses bytes q p) = outcome (refusal q p) (buffer 21)

pub cases : List Case
cases =
    writes 0 [] (0x01 ∷ 0x00 ∷ [])
    ∷ writes 1 [] (0x01 ∷ 0x01 ∷ [])
    ∷ writes 2 (1 ∷ []) (0x01 ∷ 0x02 ∷ 0x01 ∷ [])
    ∷ writes 3 (0 ∷ 1 ∷ 1 ∷ []) (0x01 ∷ 0x03 ∷ 0x06 ∷ [])
    ∷ writes 4 (1 ∷ 0 ∷ 1 ∷ 0 ∷ 1 ∷ []) (0x01 ∷ 0x04 ∷ 0x15 ∷ [])
    ∷ writes 5 (0 ∷ 0 ∷ 0 ∷ 1 ∷ 1 ∷ 1 ∷ 1 ∷ 0 ∷ []) (0x01 ∷ 0x05 ∷ 0x78 ∷ [])
    ∷ writes 9 (0 ∷ 0 ∷ 0 ∷ 1 ∷ 0 ∷ 0 ∷ 0 ∷ 1 ∷ 1 ∷ 1 ∷ 1 ∷ 0 ∷ 1 ∷ 0 ∷ 1 ∷ 0 ∷ 1 ∷ 1 ∷ 1 ∷ 0 ∷ 0 ∷ []) (0x01 ∷ 0x09 ∷ 0x88 ∷ 0x2F ∷ 0x1D ∷ [])
    ∷ refuses (0x01 ∷ 0x03 ∷ 0x0E ∷ []) 11 2
    ∷ []

pub cases_hold : map run cases ≡ map expected cases
unfolding cases map write_sheet write_questions read_sheet setting_in read_questions head_questions body_questions bits_from sheet numbers_bytes fourteens bits_number number_bytes number_questions number_at numbers_questions numbers_at place_past low_bits bits_in all_zero first_bad_from W by_halves overlay
cases_hold = refl
