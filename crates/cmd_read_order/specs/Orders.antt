-- An order as the programs read it, a count and that many entries, as sheet numbers; and its setting (01, 'Month cases').
-- Assumes nothing: these are definitions.
use Rattle.std.specs.Prelude.{List, [], ◌∷◌, ◌++◌, ℕ, Result, Ok, Err}
use Rattle.answers.specs.declared.Refusal.{Refusal}
use Rattle.answers.specs.Answers.{answer_with}
use Rattle.answers.specs.Questions.{Question, Verdict, first_no}
use Rattle.answers.specs.Outcomes.{beside_of, Outcome, outcome, settled}
use Rattle.counts.specs.Counts.{E}
use Rattle.network.specs.Wiring.{paper}
use Rattle.questions.specs.Asked.{places_few, an_order, ends_at}
use Rattle.steps.specs.Setting.{setting_for}
use Rattle.numbers.specs.Numbers.{number_questions, number_at, sevens}
use Rattle.rows.specs.Rows.{numbers_questions, numbers_at, place_past}
use Rattle.cmd_read_order.specs.declared.OrderSet.{OrderSet}

-- ---- what an input holds

abbrev pub count_in : List ℕ → ℕ
count_in input = (number_at input 0).value

abbrev pub entries_at : List ℕ → ℕ
entries_at input = (number_at input 0).next

abbrev pub order_in : List ℕ → List ℕ
order_in input = numbers_at sevens (count_in input) input (entries_at input)

-- the place after the last entry
abbrev pub end_of : List ℕ → ℕ
end_of input = place_past sevens (count_in input) input (entries_at input)

-- how many bytes of an order a program reads: the longest order has one less, so that a surplus byte shows
abbrev pub order_room : ℕ
order_room = 2051

-- ---- the questions: 8, 9, 1 for the count; 8, 9 for each entry; then 12, 6

-- all but 6, which speaks of the order and not of its form
unfoldable pub form_questions : List ℕ → List Question
form_questions input =
    number_questions input 0
    ++ (places_few (count_in input)
    ∷ (numbers_questions sevens (count_in input) input (entries_at input)
    ++ (ends_at (end_of input) input
    ∷ [])))

abbrev pub entry_questions : List ℕ → List Question
entry_questions order = an_order order ∷ []

unfoldable pub order_questions : List ℕ → List Question
order_questions input = form_questions input ++ entry_questions (order_in input)

-- ---- the setting

-- of the order that an input holds, over the front of the buffer; the count is the number of places
unfoldable pub order_setting : List ℕ → List ℕ → Outcome
order_setting input buffer = settled (first_no (order_questions input)) (count_in input) (setting_for paper (order_in input)) buffer

-- ---- beside the answer, the number of entries that the setter logged: 0 in a refusal

abbrev pub entries_logged : Verdict → ℕ → ℕ
entries_logged v n = beside_of v (E n)

pub record Reported : Type 0 where
  pub outcome : Outcome
  pub entries : ℕ

abbrev pub reported : Outcome → ℕ → Reported
reported o e = record { outcome = o; entries = e }

-- what a call gives, and the bits as it leaves them, as that record
abbrev pub entries_of : Result OrderSet Refusal → ℕ
entries_of (Ok s) = s.entries
entries_of (Err r) = 0

abbrev pub report_of : Result OrderSet Refusal → List ℕ → Reported
report_of r bits = reported (outcome (answer_with (λ s. s.places) r) bits) (entries_of r)

-- what setting an order of n places comes to, after some questions
abbrev pub set_report : List Question → ℕ → List ℕ → List ℕ → Reported
set_report qs n order buffer = reported (settled (first_no qs) n (setting_for paper order) buffer) (entries_logged (first_no qs) n)

unfoldable pub order_report : List ℕ → List ℕ → Reported
order_report input buffer = set_report (order_questions input) (count_in input) (order_in input) buffer
