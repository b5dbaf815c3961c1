-- The sheet of an order that an input holds (01: set, then write sheet).
-- Assumes nothing: these are definitions.
use Rattle.std.specs.Prelude.{List, ℕ, length}
use Rattle.answers.specs.Questions.{first_no}
use Rattle.answers.specs.Outcomes.{Outcome, settled}
use Rattle.sheets.specs.Sheet.{sheet}
use Rattle.network.specs.Wiring.{paper}
use Rattle.steps.specs.Setting.{setting_for}
use Rattle.cmd_read_order.specs.Orders.{count_in, order_in, order_questions}

-- of its canonical setting
abbrev pub sheet_for : List ℕ → List ℕ
sheet_for input = sheet (count_in input) (setting_for paper (order_in input))

-- the questions of reading an order: the others that set and write sheet ask get a yes always, since there is room for the
-- longest setting, log and sheet. The sheet over the front of the output, and as count its bytes
unfoldable pub sheet_call : List ℕ → List ℕ → Outcome
sheet_call input out = settled (first_no (order_questions input)) (length (sheet_for input)) (sheet_for input) out
