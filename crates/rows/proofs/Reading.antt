-- What the loop of `read_row` keeps, for every form of numbers.
-- Assumes nothing.
use mathlib.Core.Path.{◌≡◌, refl, sym, ap, ◌∙◌}
use mathlib.Core.List.{List, [], ◌∷◌, ◌++◌}
use Prim.Native.Nat.{ℕ, suc, ◌+◌, ◌-◌, ◌≤◌, ◌<◌}
use native.Mathlib.Numerals.{add-one}
use native.Mathlib.Omega.{arith}
use lib.ListN.{length, take, set, length-set}
use lib.Seq.{take-suc-set, take_all, take_at}
use Rattle.std.specs.Prelude.{Result, Ok, Err}
use Rattle.answers.specs.declared.Refusal.{Refusal}
use Rattle.answers.specs.Answers.{number_of}
use Rattle.answers.specs.Questions.{Question, all_yes, no_at, first_no}
use Rattle.answers.proofs.Questions.{asked-both, asked-first, never}
use Rattle.numbers.specs.Numbers.{NumberForm, Reads}
use Rattle.rows.specs.declared.RowEnd.{RowEnd}
use Rattle.rows.specs.Rows.{numbers_questions, numbers_at, place_past, row_end, Row}
use Rattle.rows.proofs.Rows.{place_more, numbers_more}

-- a refused row
pub row_refused :
    {A : Type 0} {qs : List Question} {end : A} {k : ℕ} {row values : List ℕ} (r : Refusal)
    → first_no qs ≡ no_at (number_of r.reason) r.place
    → Row qs end k row values (Err r)
row_refused r e = record { answer = e; numbers = λ y. absurd (never (sym e ∙ y)) }

-- k numbers of a form, from a place on
abbrev pub RowOf : NumberForm → List ℕ → ℕ → ℕ → List ℕ → Result RowEnd Refusal → Type 0
RowOf form input start k values r =
    Row (numbers_questions form k input start) (row_end form k input start) k (numbers_at form k input start) values r

-- what is left to ask is what there was to ask, and the numbers so far are there
pub record Reading (form : NumberForm) (input : List ℕ) (start k : ℕ) (values : List ℕ) (last at j : ℕ) : Type 0 where
  pub within : j ≤ k
  pub same : length values ≡ k
  pub left : first_no (numbers_questions form k input start) ≡ first_no (numbers_questions form (k - j) input at)
  pub from : last ≡ place_past form (j - 1) input start
  pub here : at ≡ place_past form j input start
  pub got : take j values ≡ numbers_at form j input start

pub reading_starts :
    (form : NumberForm) (input : List ℕ) (start k : ℕ) (values : List ℕ)
    → length values ≡ k
    → Reading form input start k values start start 0
unfolding place_past numbers_at
reading_starts form input start k values e =
    let z : k - 0 ≡ k = omega arith in
    record { within = omega arith; same = e; left = rw z; from = refl; here = refl; got = refl }

module _
    (form : NumberForm) (input : List ℕ) (start k : ℕ) (values : List ℕ) (last at j : ℕ)
    (R : Reading form input start k values last at j)
  where
    next_asked : (m : ℕ) → k - j ≡ suc m
        → numbers_questions form (k - j) input at ≡ form.questions input at ++ numbers_questions form m input (form.read input at).next
    unfolding numbers_questions
    next_asked m e = rw e

    pub reading_more :
        (v past : ℕ)
        → j < k
        → Reads form input at v past
        → Reading form input start k (set values j v) at past (j + 1)
    reading_more v past h N =
        let z : j + 1 - 1 ≡ j = omega arith in
        let place : past ≡ place_past form (suc j) input start =
        sym N.next ∙ ap (λ p. (form.read input p).next) R.here ∙ sym (place_more form input j start)
        in
        let value : v ≡ (form.read input (place_past form j input start)).value =
        sym N.value ∙ ap (λ p. (form.read input p).value) R.here
        in
        record {
          within = omega arith;
          same = length-set values j v ∙ R.same;
          left =
              R.left
              ∙ ap first_no (next_asked (k - (j + 1)) (omega arith))
              ∙ asked-both (form.questions input at) (numbers_questions form (k - (j + 1)) input (form.read input at).next) N.asked
              ∙ rw N.next;
          from = R.here ∙ rw z;
          here = rw add-one place;
          got =
              rw add-one
              (take-suc-set values j v (omega (arith, R.same))
              ∙ rw R.got (ap (λ x. numbers_at form j input start ++ (x ∷ [])) value)
              ∙ sym (numbers_more form input j start));
        }

    -- a number is refused
    pub reading_stops :
        (r : Refusal)
        → j < k
        → first_no (form.questions input at) ≡ no_at (number_of r.reason) r.place
        → (after : List ℕ)
        → RowOf form input start k after (Err r)
    reading_stops r h e after =
        row_refused r
        (R.left
        ∙ ap first_no (next_asked (k - (j + 1)) (omega arith))
        ∙ asked-first (form.questions input at) (numbers_questions form (k - (j + 1)) input (form.read input at).next) e)

    -- all are read, with whatever stands behind them
    pub reading_ends : k ≤ j → (rest : List ℕ) → RowOf form input start k (values ++ rest) (Ok (record { last = last; next = at }))
    unfolding numbers_questions
    reading_ends h rest =
        let e : j ≡ k = omega (arith, R.within) in
        let z : k - j ≡ 0 = omega arith in
        let all : first_no (numbers_questions form k input start) ≡ all_yes = R.left ∙ rw z in
        let whole : values ≡ numbers_at form k input start = sym (take_all k values (omega (arith, R.same))) ∙ rw e at R.got in
        record { answer = (all, rw (R.from, R.here, e)); numbers = λ y. take_at values rest k R.same ∙ whole }
