-- The text that the program `list` prints for an input (02, F-3).
-- Assumes nothing: these are definitions.
use Rattle.std.specs.Prelude.{List, [], ◌∷◌, ◌++◌, ℕ, zero, suc}
use Rattle.answers.specs.Questions.{Question, Verdict, all_yes, no_at, first_no}
use Rattle.network.specs.Wiring.{paper}
use Rattle.questions.specs.Asked.{ends_at, listable}
use Rattle.steps.specs.Setting.{setting_for}
use Rattle.numbers.specs.Numbers.{number_questions, number_at}
use Rattle.orders_listed.specs.Ranks.{factorial, order_at}
use Rattle.cmd_text.specs.Text.{refusal_line}
use Rattle.cmd_text.specs.Written.{Written, printed}
use Rattle.cmd_list_line.specs.Line.{line_of}

-- ---- a line for each order

-- the line of the r-th order of n places
unfoldable pub order_line : ℕ → ℕ → List ℕ
order_line n r = line_of (order_at n r) (setting_for paper (order_at n r))

-- the lines of the first k orders, in their sequence
unfoldable pub order_lines : ℕ → ℕ → List ℕ
order_lines n zero = []
order_lines n (suc k) = order_lines n k ++ order_line n k

-- .. and of all
abbrev pub orders_of : ℕ → List ℕ
orders_of n = order_lines n (factorial n)

-- ---- the text

-- the length that an input holds, and the place after it
abbrev pub length_in : List ℕ → ℕ
length_in input = (number_at input 0).value

abbrev pub past_length : List ℕ → ℕ
past_length input = (number_at input 0).next

-- 17, 12
abbrev pub length_questions : List ℕ → List Question
length_questions input =
    listable (length_in input) ∷ ends_at (past_length input) input ∷ []

-- 8, 9 for the number; then 17, 12
unfoldable pub list_questions : List ℕ → List Question
list_questions input = number_questions input 0 ++ length_questions input

abbrev pub text_of : Verdict → List ℕ → List ℕ
text_of all_yes input = orders_of (length_in input)
text_of (no_at q p) input = refusal_line q p

-- the first question that gets a no decides
unfoldable pub orders_text : List ℕ → List ℕ
orders_text input = text_of (first_no (list_questions input)) input

-- how many bytes the program reads: a length of 6 or less has one byte, so that a surplus shows, and a longer one is refused for itself
abbrev pub list_room : ℕ
list_room = 2

-- ---- the call

-- the text over the front of the buffer
abbrev pub list_call : List ℕ → List ℕ → Written
list_call input buffer = printed (orders_text input) buffer
