-- What a whole call comes to: its answer, and each lent buffer as the call leaves it.
-- Assumes nothing: these are definitions.
use Rattle.std.specs.Prelude.{List, ℕ}
use Rattle.answers.specs.declared.Answer.{Answer}
use Rattle.answers.specs.Answers.{refusal, accepted}
use Rattle.answers.specs.Questions.{Verdict, all_yes, no_at}
use Rattle.answers.specs.Buffers.{overlay}

-- the answer of a call that reports `count` where it is accepted
abbrev pub answer_of : Verdict → ℕ → Answer
answer_of all_yes count = accepted count
answer_of (no_at q p) count = refusal q p

-- the buffer after a call that writes `words` over its front where it is accepted, and nothing where it is refused
abbrev pub buffer_of : Verdict → List ℕ → List ℕ → List ℕ
buffer_of all_yes words buffer = overlay buffer 0 words
buffer_of (no_at q p) words buffer = buffer

-- a number that stands beside the answer: 0 where the call is refused
abbrev pub beside_of : Verdict → ℕ → ℕ
beside_of all_yes number = number
beside_of (no_at q p) number = 0

-- a call with one lent buffer to write
pub record Outcome : Type 0 where
  pub answer : Answer
  pub buffer : List ℕ

abbrev pub outcome : Answer → List ℕ → Outcome
outcome a b = record { answer = a; buffer = b }

-- a call that asks, then writes `words` and reports `count`
abbrev pub settled : Verdict → ℕ → List ℕ → List ℕ → Outcome
settled v count words buffer = record { answer = answer_of v count; buffer = buffer_of v words buffer }

-- a call that keeps a log beside its buffer
pub record Logged : Type 0 where
  pub answer : Answer
  pub buffer : List ℕ
  pub log : List ℕ

abbrev pub logged : Answer → List ℕ → List ℕ → Logged
logged a b l = record { answer = a; buffer = b; log = l }

-- a call that asks, then writes `words` and the log's `entries`, and reports `count`
abbrev pub settled_logged : Verdict → ℕ → List ℕ → List ℕ → List ℕ → List ℕ → Logged
settled_logged v count words buffer entries log =
    record { answer = answer_of v count; buffer = buffer_of v words buffer; log = buffer_of v entries log }
