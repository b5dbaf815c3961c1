-- What a reading gives, Ok or Err, in 01's numbers.
-- Assumes nothing: these are definitions.
use Rattle.std.specs.Prelude.{◌≡◌, Result, Ok, Err, MatchResult}
use Rattle.answers.specs.declared.Answer.{Answer}
use Rattle.answers.specs.declared.Refusal.{Refusal}
use Rattle.answers.specs.Answers.{number_of, answer_with}
use Rattle.answers.specs.Questions.{Verdict, all_yes, no_at}
use Rattle.numbers.specs.Numbers.{NumberAnswer, number_answer}
use Rattle.numbers.specs.declared.Number.{Number}

-- 01's answer for each case
abbrev pub meaning : Result Number Refusal → NumberAnswer
meaning (Ok x) = number_answer all_yes x.value x.next
meaning (Err r) = number_answer (no_at (number_of r.reason) r.place) 0 0

-- .. and the answer of any reading: nothing is counted
abbrev pub answer_of : {A : Type 0} → Result A Refusal → Answer
answer_of = answer_with (λ _. 0)

-- a reading against the verdict of its questions: what is read where each gets a yes, or the first no
abbrev pub ReadAs : {A : Type 0} → Verdict → A → Result A Refusal → Type 0
ReadAs v x r = MatchResult r (λ y. (v ≡ all_yes) × (y ≡ x)) (λ e. v ≡ no_at (number_of e.reason) e.place)
