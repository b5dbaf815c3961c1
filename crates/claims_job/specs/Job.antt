-- The whole job: draw, sheet, mix, unmix and show, each on what the one before it wrote. Of each program it speaks by the
-- definition with which the program's contract equates its answer and its output.
-- Assumes nothing: these are definitions.
use Rattle.std.specs.Prelude.{◌≡◌, true, List, ◌++◌, ℕ, ◌-◌, ◌*◌, ◌^◌, ◌≤◌, ◌<◌, length, get_or, take}
use Rattle.answers.specs.Answers.{accepted}
use Rattle.answers.specs.Questions.{all_yes, first_no}
use Rattle.answers.specs.Buffers.{overlay}
use Rattle.answers.specs.Outcomes.{Outcome, outcome}
use Rattle.counts.specs.Counts.{W}
use Rattle.network.specs.Wiring.{paper}
use Rattle.permutation.specs.Permutations.{IsPermutation}
use Rattle.shuffle_fair.specs.Words.{chosen}
use Rattle.shuffle.specs.Shuffled.{order_from}
use Rattle.canonical.specs.Rule.{ExactlyOne}
use Rattle.sheets.specs.Sheet.{sheet}
use Rattle.cmd_text.specs.Text.{decimal, bits_text, line}
use Rattle.cmd_read_order.specs.Orders.{count_in, order_in, order_questions}
use Rattle.cmd_draw.specs.Draw.{word_at, words_in, order_bytes, draw_call}
use Rattle.cmd_sheet.specs.Calls.{sheet_call}
use Rattle.cmd_move.specs.Calls.{mix_call, unmix_call}
use Rattle.cmd_show.specs.Show.{order_text, pictured, show_call}
use Rattle.claims.specs.Carrying.{block, Filled}

-- what draw and sheet write to standard output: as many bytes of the buffer's front as the answer counts
abbrev pub written : Outcome → List ℕ
written o = take o.answer.count o.buffer

-- an input that sheet accepts, and that it reads as an order of n places
pub record Holds (n : ℕ) (order input : List ℕ) : Type 0 where
  pub asked : first_no (order_questions input) ≡ all_yes
  pub places : count_in input ≡ n
  pub entries : order_in input ≡ order

-- draw is accepted, and what it writes, at most 2,050 bytes, holds the order, a permutation
pub record Drawn (n : ℕ) (order : List ℕ) (o : Outcome) : Type 0 where
  pub permutation : IsPermutation n order
  pub draw_accepted : o.answer ≡ accepted (length (order_bytes order))
  pub order_written : Holds n order (written o)
  pub order_fits : length (written o) ≤ 2050

-- mix and unmix with one sheet, on any blocks: both are accepted, mix carries the block at each place i to place order[i],
-- and unmix brings all of them back
pub record Moves (n : ℕ) (order made : List ℕ) : Type 0 where
  pub mix_accepted : (width : ℕ) (blocks : List ℕ) → Filled n width blocks → (mix_call made width blocks).answer ≡ accepted (W n)
  pub carries : (width : ℕ) (blocks : List ℕ) → Filled n width blocks → (i : ℕ) → i < n
      → block n width (mix_call made width blocks).buffer (get_or order i 0) ≡ block n width blocks i
  pub returns : (width : ℕ) (blocks : List ℕ) → Filled n width blocks
      → unmix_call made width (mix_call made width blocks).buffer ≡ outcome (accepted (W n)) blocks

-- show's text: the setting and the order, and a picture where it fits
abbrev pub shown : ℕ → List ℕ → List ℕ → List ℕ
shown n bits order =
    line "places " (decimal n) ++ (line "setting " (bits_text bits) ++ (line "order" (order_text order) ++ pictured n bits))

-- sheet is accepted, and what it writes, at most 1,321 bytes, is the sheet of the order's canonical setting; with it blocks
-- move as the order says, and show names that setting and that order
pub record Made (n : ℕ) (order : List ℕ) (o : Outcome) : Type 0 where
  pub permutation : IsPermutation n order
  pub house : ExactlyOne paper n order
  pub sheet_accepted : o.answer ≡ accepted (length (sheet n house.setting))
  pub sheet_written : written o ≡ sheet n house.setting
  pub sheet_fits : length (written o) ≤ 1321
  pub moves : Moves n order (written o)
  pub shows : (out : List ℕ) → show_call (written o) out
      ≡ outcome (accepted (length (shown n house.setting order))) (overlay out 0 (shown n house.setting order))

pub record Job : Type 0 where
  -- random bytes whose words are enough are drawn into an order that sheet takes, whatever stood in the output
  pub drawn : (n : ℕ) (bytes out : List ℕ) → n ≤ 1024 → (chosen n (words_in n bytes)).enough ≡ true
      → Drawn n (order_from n (words_in n bytes)) (draw_call n bytes out)
  -- and they are enough where there is one for each place, each below 2^32 - 1,023
  pub enough : (n : ℕ) (bytes : List ℕ) → n ≤ 1024 → 4 * n ≤ length bytes → ((i : ℕ) → i < n → word_at bytes i < 2 ^ 32 - 1023)
      → (chosen n (words_in n bytes)).enough ≡ true
  -- sheet takes each order of at most 1,024 places, in draw's form
  pub taken : (n : ℕ) (order : List ℕ) → n ≤ 1024 → IsPermutation n order → Holds n order (order_bytes order)
  -- and from any input that holds an order the rest is done, whatever stood in the output
  pub done : (n : ℕ) (order input out : List ℕ) → Holds n order input → Made n order (sheet_call input out)
