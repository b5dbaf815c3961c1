-- How far a row of numbers reaches, and that an input cut behind it gives the same row: its questions, its numbers, its places.
-- Assumes nothing.
use mathlib.Core.Path.{◌≡◌, refl, sym, ap, ◌∙◌}
use mathlib.Core.Bool.{Bool, true, false}
use mathlib.Core.List.{List, ◌∷◌, ◌++◌}
use Prim.Native.Nat.{ℕ, zero, suc, ◌+◌, ◌*◌, ◌≤◌, ◌<◌}
use native.Mathlib.Omega.{arith}
use native.Mathlib.Decide.{dec_lt}
use lib.ListN.{length, take}
use lib.Seq.{take_all}
use Rattle.answers.specs.Questions.{Question, ask, Verdict, all_yes, no_at, first_no}
use Rattle.answers.proofs.Questions.{asked_yes, asked_no, asked-both, asked-first}
use Rattle.numbers.specs.Numbers.{number_questions, NumberAnswer, number_at, sevens}
use Rattle.numbers.proofs.Reach.{place_near, asked_alike, read_alike}
use Rattle.rows.specs.Rows.{numbers_questions, numbers_at, place_past}

-- ---- the verdicts of two lists of questions are alike where those of their parts are; the later part may count on the yes before it

pub both_alike : (qs rs ts us : List Question) → first_no qs ≡ first_no rs → (first_no rs ≡ all_yes → first_no ts ≡ first_no us)
    → first_no (qs ++ ts) ≡ first_no (rs ++ us)
both_alike qs rs ts us e f = go (first_no rs) refl
  where
    go : (v : Verdict) → first_no rs ≡ v → first_no (qs ++ ts) ≡ first_no (rs ++ us)
    go all_yes t = asked-both qs ts (e ∙ t) ∙ f t ∙ sym (asked-both rs us t)
    go (no_at q p) t = asked-first qs ts (e ∙ t) ∙ sym (asked-first rs us t)

pub one_alike : (q p : ℕ) (b : Bool) (ts us : List Question) → (b ≡ true → first_no ts ≡ first_no us)
    → first_no (ask q p b ∷ ts) ≡ first_no (ask q p b ∷ us)
one_alike q p true ts us f = asked_yes q p true ts refl ∙ f refl ∙ sym (asked_yes q p true us refl)
one_alike q p false ts us f = asked_no q p false ts refl ∙ sym (asked_no q p false us refl)

-- two lists of questions that get the same no
pub record SameNo (qs rs : List Question) : Type 0 where
  pub number : ℕ
  pub place : ℕ
  pub first : first_no qs ≡ no_at number place
  pub second : first_no rs ≡ no_at number place

pub same_no : (qs rs : List Question) → first_no qs ≡ first_no rs → (first_no rs ≡ all_yes → ⊥) → SameNo qs rs
same_no qs rs e n = go (first_no rs) refl
  where
    go : (v : Verdict) → first_no rs ≡ v → SameNo qs rs
    go all_yes t = absurd (n t)
    go (no_at q p) t = record { number = q; place = p; first = e ∙ t; second = t }

-- m bytes are enough where they are enough of an input that has as many
pub enough : {A : Type 0} (F : List ℕ → A) (m : ℕ) (input : List ℕ) → (m ≤ length input → F (take m input) ≡ F input)
    → F (take m input) ≡ F input
enough F m input long = go (dec_lt (length input) m)
  where
    go : Dec (length input < m) → F (take m input) ≡ F input
    go (yes h) = ap F (take_all m input (omega arith))
    go (no h) = long (omega arith)

-- ---- how far a row reaches

pub row_near : (input : List ℕ) (k at : ℕ) → place_past sevens k input at ≤ at + 2 * k
unfolding place_past
row_near input zero at = omega arith
row_near input (suc k) at = omega (arith, place_near input at, row_near input k (number_at input at).next)

-- ---- a row that lies in the first m bytes

module _ (input : List ℕ) (m : ℕ) (long : m ≤ length input) where
  next_alike : (at : ℕ) → at + 1 < m → (number_at (take m input) at).next ≡ (number_at input at).next
  next_alike at h = ap (λ (a : NumberAnswer). a.next) (read_alike input m long at h)

  pub row-asked : (k at : ℕ) → at + 2 * k ≤ m
      → first_no (numbers_questions sevens k (take m input) at) ≡ first_no (numbers_questions sevens k input at)
  unfolding numbers_questions
  row-asked zero at h = refl
  row-asked (suc k) at h =
      rw (next_alike at (omega arith))
      (both_alike (number_questions (take m input) at) (number_questions input at) _ _ (asked_alike input m long at (omega arith))
      (λ y. row-asked k (number_at input at).next (omega (arith, place_near input at))))

  pub row_numbers : (k at : ℕ) → at + 2 * k ≤ m → numbers_at sevens k (take m input) at ≡ numbers_at sevens k input at
  unfolding numbers_at
  row_numbers zero at h = refl
  row_numbers (suc k) at h =
      rw (read_alike input m long at (omega arith), row_numbers k (number_at input at).next (omega (arith, place_near input at)))

  pub row-place : (k at : ℕ) → at + 2 * k ≤ m → place_past sevens k (take m input) at ≡ place_past sevens k input at
  unfolding place_past
  row-place zero at h = refl
  row-place (suc k) at h =
      rw (next_alike at (omega arith)) (row-place k (number_at input at).next (omega (arith, place_near input at)))
