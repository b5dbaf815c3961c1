-- The text that the program `settings` prints for an input (01, 'Month cases').
-- Assumes nothing: these are definitions.
use Rattle.std.specs.Prelude.{List, ◌++◌, ℕ}
use Rattle.answers.specs.Questions.{Verdict, all_yes, no_at, first_no}
use Rattle.counts.specs.Counts.{E}
use Rattle.network.specs.Wiring.{paper}
use Rattle.steps.specs.Setting.{setting_for}
use Rattle.cmd_read_order.specs.Orders.{count_in, order_in, order_questions}
use Rattle.cmd_text.specs.Text.{decimal, bits_text, line, refusal_line}
use Rattle.cmd_text.specs.Written.{Written, printed}

-- ---- the text

-- the number of places, the bits, the setter's entry count
unfoldable pub setting_lines : ℕ → List ℕ → ℕ → List ℕ
setting_lines n bits entries = line "places " (decimal n) ++ (line "setting " (bits_text bits) ++ line "entries " (decimal entries))

abbrev pub text_of : Verdict → List ℕ → List ℕ
text_of all_yes input = setting_lines (count_in input) (setting_for paper (order_in input)) (E (count_in input))
text_of (no_at q p) input = refusal_line q p

-- the first question that gets a no decides
unfoldable pub settings_text : List ℕ → List ℕ
settings_text input = text_of (first_no (order_questions input)) input

-- ---- the call

-- the text over the front of the buffer
abbrev pub settings_call : List ℕ → List ℕ → Written
settings_call input buffer = printed (settings_text input) buffer
