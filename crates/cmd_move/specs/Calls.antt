-- Blocks moved under the setting of a sheet (01: read sheet, then mix or return).
-- Assumes nothing: these are definitions.
use Rattle.std.specs.Prelude.{List, ◌++◌, ℕ, ◌*◌, length}
use Rattle.answers.specs.Questions.{Question, first_no}
use Rattle.answers.specs.Outcomes.{Outcome, settled}
use Rattle.counts.specs.Counts.{W}
use Rattle.sheets.specs.Calls.{places_in, read_questions, setting_in}
use Rattle.network.specs.Wiring.{paper}
use Rattle.network.specs.Log.{entry_words}
use Rattle.network.specs.Blocks.{moved, moved_back}
use Rattle.apply_questions.specs.Questions.{apply_questions}

-- those of reading the sheet, into room for the longest setting; then those of moving blocks, with n and the bits from the
-- sheet and room for the longest log
unfoldable pub move_questions : List ℕ → ℕ → ℕ → List Question
move_questions sheet width filled =
    read_questions sheet 9217 ++ apply_questions (places_in sheet) width filled (setting_in sheet) (entry_words * 9217)

-- how many bytes of blocks a program reads: a byte more than the most blocks have, so that a surplus shows
abbrev pub blocks_room : ℕ
blocks_room = 262145

-- the blocks moved in a direction, and as count the switches that acted
abbrev pub move_call : (ℕ → ℕ → List ℕ → List ℕ → List ℕ) → List ℕ → ℕ → List ℕ → Outcome
move_call direction sheet width blocks =
    settled (first_no (move_questions sheet width (length blocks))) (W (places_in sheet))
    (direction (places_in sheet) width (setting_in sheet) blocks)
    blocks

-- forward, and backward
unfoldable pub mix_call : List ℕ → ℕ → List ℕ → Outcome
mix_call sheet width blocks = move_call (moved paper) sheet width blocks

unfoldable pub unmix_call : List ℕ → ℕ → List ℕ → Outcome
unmix_call sheet width blocks = move_call (moved_back paper) sheet width blocks
