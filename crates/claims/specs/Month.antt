-- The starred month cases of 01, in the paper's wiring, as one table: what each case hands in, and what has to come of it.
-- Assumes nothing: these are definitions.
use Rattle.std.specs.Prelude.{List, [], ◌∷◌, ◌++◌, ℕ, ◌*◌, length, replicate}
use Rattle.answers.specs.declared.Answer.{Answer}
use Rattle.answers.specs.Answers.{refusal, accepted}
use Rattle.answers.specs.Outcomes.{Outcome, Logged}
use Rattle.counts.specs.Counts.{W, E}
use Rattle.network.specs.Log.{entry_words}
use Rattle.sheets.specs.Calls.{write_sheet, read_sheet}
use Rattle.shuffle.specs.Shuffled.{Shuffled, shuffle_call}
use Rattle.wirings.specs.declared.Topology.TheVariants.{Paper}
use Rattle.claims.specs.Calls.{set, mix, return, outcome_of}

pub data Case : Type 0 where
  -- an order, its setting and its sheet
  sets : (order setting sheet : List ℕ) → Case
  -- blocks of one byte mixed, or returned, by a setting
  mixes : (setting blocks moved : List ℕ) → Case
  returns : (setting blocks moved : List ℕ) → Case
  -- an order drawn from words, and how many of them were used
  draws : (words order : List ℕ) (used : ℕ) → Case
  -- an order that set refuses, and a sheet that is refused: number and place
  refuses_order : (order : List ℕ) (number place : ℕ) → Case
  refuses_sheet : (sheet : List ℕ) (number place : ℕ) → Case

-- lent memory, all 5s, so that what is kept shows
abbrev pub lent : ℕ → List ℕ
lent size = replicate size 5

-- what a case comes to: the answers of its calls, the numbers beside them, and the buffers that they left. Logs are lent as
-- long as they must be
pub record Result : Type 0 where
  pub answers : List Answer
  pub beside : List ℕ
  pub buffers : List (List ℕ)

abbrev pub result : List Answer → List (List ℕ) → Result
result answers buffers = record { answers = answers; beside = []; buffers = buffers }

abbrev pub of_logged : Logged → Result
of_logged o = result (o.answer ∷ []) (o.buffer ∷ [])

abbrev pub of_outcome : Outcome → Result
of_outcome o = result (o.answer ∷ []) (o.buffer ∷ [])

abbrev pub of_shuffled : Shuffled → Result
of_shuffled o = record { answers = o.answer ∷ []; beside = o.used ∷ []; buffers = o.buffer ∷ [] }

abbrev pub both : Result → Result → Result
both a b = record { answers = a.answers ++ b.answers; beside = a.beside ++ b.beside; buffers = a.buffers ++ b.buffers }

abbrev pub run_case : Case → Result
run_case (sets order setting sheet) =
    both
    (of_logged (outcome_of (set Paper order (lent (W (length order))) (lent (entry_words * E (length order))))))
    (of_outcome (write_sheet (length order) setting (lent (length sheet))))
run_case (mixes setting blocks moved) =
    of_logged (outcome_of (mix Paper (length blocks) 1 blocks setting (lent (entry_words * length setting))))
run_case (returns setting blocks moved) =
    of_logged (outcome_of (return Paper (length blocks) 1 blocks setting (lent (entry_words * length setting))))
run_case (draws words order used) = of_shuffled (shuffle_call (length order) words (lent (length order)))
run_case (refuses_order order number place) =
    let o = outcome_of (set Paper order (lent (W (length order))) (lent (entry_words * E (length order)))) in
    result (o.answer ∷ []) (o.buffer ∷ o.log ∷ [])
run_case (refuses_sheet sheet number place) = of_outcome (read_sheet sheet (lent 9))

abbrev pub expected : Case → Result
expected (sets order setting sheet) = result (accepted (E (length order)) ∷ accepted (length sheet) ∷ []) (setting ∷ sheet ∷ [])
expected (mixes setting blocks moved) = result (accepted (length setting) ∷ []) (moved ∷ [])
expected (returns setting blocks moved) = result (accepted (length setting) ∷ []) (moved ∷ [])
expected (draws words order used) = record { answers = accepted (length order) ∷ []; beside = used ∷ []; buffers = order ∷ [] }
expected (refuses_order order number place) =
    result (refusal number place ∷ []) (lent (W (length order)) ∷ lent (entry_words * E (length order)) ∷ [])
expected (refuses_sheet sheet number place) = result (refusal number place ∷ []) (lent 9 ∷ [])

-- case g's setting
abbrev pub setting_g : List ℕ
setting_g = 0 ∷ 0 ∷ 0 ∷ 1 ∷ 0 ∷ 0 ∷ 0 ∷ 1 ∷ 1 ∷ 1 ∷ 1 ∷ 0 ∷ 1 ∷ 0 ∷ 1 ∷ 0 ∷ 1 ∷ 1 ∷ 1 ∷ 0 ∷ 0 ∷ []

-- a to l, in 01's sequence; blocks are letters
unfoldable pub cases : List Case
cases =
    sets [] [] (0x01 ∷ 0x00 ∷ [])
    ∷ sets (0 ∷ []) [] (0x01 ∷ 0x01 ∷ [])
    ∷ sets (1 ∷ 0 ∷ []) (1 ∷ []) (0x01 ∷ 0x02 ∷ 0x01 ∷ [])
    ∷ sets (1 ∷ 2 ∷ 0 ∷ []) (0 ∷ 1 ∷ 1 ∷ []) (0x01 ∷ 0x03 ∷ 0x06 ∷ [])
    ∷ sets (1 ∷ 3 ∷ 0 ∷ 2 ∷ []) (1 ∷ 0 ∷ 1 ∷ 0 ∷ 1 ∷ []) (0x01 ∷ 0x04 ∷ 0x15 ∷ [])
    ∷ sets (1 ∷ 2 ∷ 3 ∷ 4 ∷ 0 ∷ []) (0 ∷ 0 ∷ 0 ∷ 1 ∷ 1 ∷ 1 ∷ 1 ∷ 0 ∷ []) (0x01 ∷ 0x05 ∷ 0x78 ∷ [])
    ∷ sets (6 ∷ 2 ∷ 3 ∷ 7 ∷ 5 ∷ 1 ∷ 8 ∷ 0 ∷ 4 ∷ []) setting_g (0x01 ∷ 0x09 ∷ 0x88 ∷ 0x2F ∷ 0x1D ∷ [])
    ∷ mixes setting_g
    (97 ∷ 98 ∷ 99 ∷ 100 ∷ 101 ∷ 102 ∷ 103 ∷ 104 ∷ 105 ∷ [])
    (104 ∷ 102 ∷ 98 ∷ 99 ∷ 105 ∷ 101 ∷ 97 ∷ 100 ∷ 103 ∷ [])
    ∷ returns setting_g
    (104 ∷ 102 ∷ 98 ∷ 99 ∷ 105 ∷ 101 ∷ 97 ∷ 100 ∷ 103 ∷ [])
    (97 ∷ 98 ∷ 99 ∷ 100 ∷ 101 ∷ 102 ∷ 103 ∷ 104 ∷ 105 ∷ [])
    ∷ draws (2 ∷ 1 ∷ 0 ∷ []) (2 ∷ 0 ∷ 1 ∷ []) 3
    ∷ refuses_order (0 ∷ 0 ∷ []) 6 1
    ∷ refuses_sheet (0x01 ∷ 0x03 ∷ 0x0E ∷ []) 11 2
    ∷ []
