-- What is written to the streams.
-- Assumes nothing.
use mathlib.Core.Path.{◌≡◌, refl, ap, ◌∙◌}
use mathlib.Core.List.{List, ◌++◌}
use Prim.Native.Nat.{ℕ, ◌≤◌}
use native.Mathlib.Omega.{arith}
use borrow.Author.Tests.{ne_eqb}
use lib.ListN.{length, drop, length-append}
use Rattle.std.specs.Prelude.{Result, Ok, Err}
use Rattle.std.specs.Result.{result_unwrap_or}
use Rattle.answers.specs.declared.Answer.{Answer}
use Rattle.answers.specs.declared.Refusal.{Refusal}
use Rattle.answers.specs.Answers.{answer_from}
use Rattle.answers.specs.Questions.{Verdict, all_yes, no_at}
use Rattle.answers.specs.Outcomes.{Outcome, outcome, settled}
use Rattle.answers.proofs.Buffers.{overlay-front}
use Rattle.answers.specs.Buffers.{Put}
use Rattle.answers.proofs.Putting.{put_none}
use Rattle.cmd_text.specs.Text.{refusal_line}
use Rattle.cmd_arguments.specs.Streams.{error_of}

pub error_none : (a : Answer) (line : List ℕ) → a.number ≡ 0 → Put line 0 (error_of a) 0 line
error_none a line e = rw e (put_none line 0)

pub error_line : (a : Answer) {line after : List ℕ} {r : ℕ} → (a.number ≡ 0 → ⊥)
    → Put line 0 (refusal_line a.number a.place) r after → Put line 0 (error_of a) r after
error_line a n P = rw (error_of, ne_eqb a.number 0 n) P

counted : (given : Result ℕ Refusal) → result_unwrap_or given 0 ≡ (answer_from given).count
counted (Ok n) = refl
counted (Err r) = refl

-- what a call made over the front of its buffer is within it
pub made_within : (v : Verdict) (words before : List ℕ) (given : Result ℕ Refusal) {n : ℕ} {after : List ℕ}
    → outcome (answer_from given) after ≡ settled v (length words) words before → n ≡ result_unwrap_or given 0 → n ≤ length after
made_within all_yes words before given {n} {after} e r =
    let c : (answer_from given).count ≡ length words = ap (λ (o : Outcome). o.answer.count) e in
    let b : after ≡ words ++ drop (length words) before = ap (λ (o : Outcome). o.buffer) e ∙ overlay-front before words in
    omega (arith, r ∙ counted given ∙ c, ap length b, length-append words (drop (length words) before))
made_within (no_at q p) words before given {n} {after} e r =
    let c : (answer_from given).count ≡ 0 = ap (λ (o : Outcome). o.answer.count) e in
    omega (arith, r ∙ counted given ∙ c)
