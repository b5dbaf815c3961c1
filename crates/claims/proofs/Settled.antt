-- One law for every public call, demand 1; and one for every call that keeps a log: what it leaves where it is accepted.
-- Assumes nothing.
use mathlib.Core.Path.{◌≡◌, refl, sym, ap, ◌∙◌}
use mathlib.Core.List.{List}
use Prim.Native.Nat.{ℕ, ◌*◌}
use native.Mathlib.Omega.{arith}
use lib.ListN.{length, take}
use Rattle.answers.specs.Answers.{accepted}
use Rattle.answers.specs.declared.Answer.{Answer}
use Rattle.answers.specs.Questions.{Verdict, all_yes, no_at, first_no, Numbered}
use Rattle.answers.specs.Buffers.{overlay}
use Rattle.answers.specs.Outcomes.{answer_of, Logged, settled_logged}
use Rattle.answers.proofs.Outcomes.{accepted_when}
use Rattle.answers.proofs.Buffers.{overlay_whole, overlay_read}
use Rattle.network.specs.Log.{Entry, entry_words, words}
use Rattle.network.proofs.Shape.{length-words}
use Rattle.claims.specs.PublicCalls.{Asks}
use Rattle.claims.specs.Demands.{Demand1}

-- what demand 1 rests on: the answer is that of the questions' verdict, each question has a number, and a no changes nothing
pub record Settles (a : Asks) : Type 0 where
  pub numbered : Numbered a.questions
  pub answers : a.answer ≡ answer_of (first_no a.questions) a.count
  pub kept : {q p : ℕ} → first_no a.questions ≡ no_at q p → a.left ≡ a.lent
  pub given_up : {q p : ℕ} → first_no a.questions ≡ no_at q p → a.beside ≡ a.beside_refused

pub settled-asks : (a : Asks) → Settles a → Demand1 a
settled-asks a S =
    let answered : Verdict → Answer = λ v. answer_of v a.count in
    record {
      accepts = λ e. S.answers ∙ ap answered e;
      accepted_only = λ z.
          accepted_when a.questions a.count S.numbered (sym (ap (λ (x : Answer). x.number) S.answers) ∙ z);
      refuses = λ e. S.answers ∙ ap answered e;
      leaves_lent = S.kept;
      gives_nothing = S.given_up;
    }

-- the count, the words, and what stands in the buffer and the log
pub record Left (c : ℕ) (result : List ℕ) (es : List Entry) (log : List ℕ) (L : Logged) : Type 0 where
  pub answer : L.answer ≡ accepted c
  pub words_are : take (entry_words * L.answer.count) L.log ≡ words es
  pub log_is : L.log ≡ overlay log 0 (words es)
  pub buffer : L.buffer ≡ result

pub left : (v : Verdict) (c : ℕ) (result b : List ℕ) (es : List Entry) (log : List ℕ)
    → v ≡ all_yes → length es ≡ c → length result ≡ length b → Left c result es log (settled_logged v c result b (words es) log)
left v c result b es log e n r =
    rw e
    (record {
      answer = refl;
      words_are =
          ap (λ (i : ℕ). take i (overlay log 0 (words es)))
          (let z : entry_words * c ≡ length (words es) = omega (arith, length-words es) in z)
          ∙ overlay_read log (words es);
      log_is = refl;
      buffer = overlay_whole b result r;
    })
