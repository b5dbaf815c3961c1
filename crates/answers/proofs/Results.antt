-- What a call gives, Ok or Err, against what its questions come to.
-- Assumes nothing.
use mathlib.Core.Path.{◌≡◌, sym, ap}
use mathlib.Core.List.{List}
use Prim.Native.Nat.{ℕ, ◌<◌}
use native.Mathlib.Omega.{arith}
use Rattle.std.specs.Prelude.{Ok, Err}
use Rattle.answers.specs.declared.Reason.{Reason}
use Rattle.answers.specs.declared.Reason.TheVariants.{Places, Width, BlockBytes, BitCount, LogRoom, Entry, BitByte, NextByte, ShortestForm, FormNumber, FillBits, InputEnd, OutputRoom, Place, OneLength, SmallOrder, Words}
use Rattle.answers.specs.declared.Refusal.{Refusal}
use Rattle.answers.specs.Answers.{number_of, answer_with}
use Rattle.answers.specs.Questions.{Question, Verdict, all_yes, no_at, first_no, Numbered}
use Rattle.answers.specs.Outcomes.{answer_of}
use Rattle.answers.proofs.Outcomes.{accepted_when}

-- a refusal cannot be taken for success
pub number_above : (r : Reason) → 0 < number_of r
number_above Places = omega arith
number_above Width = omega arith
number_above BlockBytes = omega arith
number_above BitCount = omega arith
number_above LogRoom = omega arith
number_above Entry = omega arith
number_above BitByte = omega arith
number_above NextByte = omega arith
number_above ShortestForm = omega arith
number_above FormNumber = omega arith
number_above FillBits = omega arith
number_above InputEnd = omega arith
number_above OutputRoom = omega arith
number_above Place = omega arith
number_above OneLength = omega arith
number_above SmallOrder = omega arith
number_above Words = omega arith

module _ {A : Type 0} (count : A → ℕ) where
  -- an Err is the first no
  pub err_no : (r : Refusal) (v : Verdict) (c : ℕ) → answer_with count (Err r) ≡ answer_of v c → v ≡ no_at (number_of r.reason) r.place
  err_no r all_yes c e = absurd (omega (arith, number_above r.reason, ap (λ a. a.number) e))
  err_no r (no_at q p) c e = let n : number_of r.reason ≡ q = ap (λ a. a.number) e in let at : r.place ≡ p = ap (λ a. a.place) e in rw (n, at)

  -- an Ok: each question got a yes
  pub ok_yes : (qs : List Question) → Numbered qs → (x : A) (c : ℕ) → answer_with count (Ok x) ≡ answer_of (first_no qs) c → first_no qs ≡ all_yes
  ok_yes qs h x c e = accepted_when qs c h (sym (ap (λ a. a.number) e))
