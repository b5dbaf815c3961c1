-- 02, F-3: the r-th order of n places, and its setting. The questions, and what the whole call comes to.
-- Assumes nothing: these are definitions.
use Rattle.std.specs.Prelude.{List, [], ◌∷◌, ℕ, ltb, length}
use Rattle.answers.specs.declared.Answer.{Answer}
use Rattle.answers.specs.Questions.{Question, ask, Verdict, first_no}
use Rattle.answers.specs.Outcomes.{answer_of, buffer_of}
use Rattle.counts.specs.Counts.{E}
use Rattle.network.specs.Wiring.{paper}
use Rattle.network.specs.Log.{words}
use Rattle.questions.specs.Asked.{bits_for, log_for, room_for, listable}
use Rattle.steps.specs.Sequence.{set_entries}
use Rattle.steps.specs.Setting.{setting_for}
use Rattle.orders_listed.specs.Ranks.{factorial, order_at}

-- 17, 14, 13, 4, 5
abbrev pub ranked_questions : (n r : ℕ) (list bits log : List ℕ) → List Question
ranked_questions n r list bits log =
    listable n
    ∷ ask 14 0 (ltb r (factorial n))
    ∷ room_for n (length list)
    ∷ bits_for n bits
    ∷ log_for (E n) (length log)
    ∷ []

-- the answer, and what is left in the order's list, the bits and the log
pub record Ranked : Type 0 where
  pub answer : Answer
  pub list : List ℕ
  pub bits : List ℕ
  pub log : List ℕ

abbrev pub ranked : Answer → (list bits log : List ℕ) → Ranked
ranked a list bits log = record { answer = a; list = list; bits = bits; log = log }

abbrev pub settled_ranked : Verdict → (n r : ℕ) (list bits log : List ℕ) → Ranked
settled_ranked v n r list bits log =
    ranked (answer_of v (E n))
    (buffer_of v (order_at n r) list)
    (buffer_of v (setting_for paper (order_at n r)) bits)
    (buffer_of v (words (set_entries paper n)) log)

-- the order over the front of its list; its setting and its log as set leaves them
unfoldable pub ranked_call : (n r : ℕ) (list bits log : List ℕ) → Ranked
ranked_call n r list bits log = settled_ranked (first_no (ranked_questions n r list bits log)) n r list bits log
