-- Numbers in a row, each where the one before ends, in a form of numbers (01, 'Sheet': `sevens`).
-- Assumes nothing: these are definitions.
use Rattle.std.specs.Prelude.{◌≡◌, List, [], ◌∷◌, ◌++◌, ℕ, zero, suc, ◌-◌, ◌<◌, get_or, take, Result}
use Rattle.answers.specs.declared.Refusal.{Refusal}
use Rattle.answers.specs.Questions.{Question, all_yes, first_no}
use Rattle.numbers.specs.Numbers.{NumberForm}
use Rattle.numbers.specs.Reading.{ReadAs}
use Rattle.rows.specs.declared.RowEnd.{RowEnd}

-- ---- writing: the bytes of numbers, one number after the other

unfoldable pub numbers_bytes : NumberForm → List ℕ → List ℕ
numbers_bytes form [] = []
numbers_bytes form (v ∷ vs) = form.bytes v ++ numbers_bytes form vs

-- ---- reading: k numbers from a place on

-- their questions
unfoldable pub numbers_questions : NumberForm → ℕ → List ℕ → ℕ → List Question
numbers_questions form zero input at = []
numbers_questions form (suc k) input at = form.questions input at ++ numbers_questions form k input (form.read input at).next

-- the numbers
unfoldable pub numbers_at : NumberForm → ℕ → List ℕ → ℕ → List ℕ
numbers_at form zero input at = []
numbers_at form (suc k) input at = (form.read input at).value ∷ numbers_at form k input (form.read input at).next

-- the place after them
unfoldable pub place_past : NumberForm → ℕ → List ℕ → ℕ → ℕ
place_past form zero input at = at
place_past form (suc k) input at = place_past form k input (form.read input at).next

-- where a row ends: the place of its last number, and the place after it
abbrev pub row_end : NumberForm → ℕ → List ℕ → ℕ → RowEnd
row_end form k input at = record { last = place_past form (k - 1) input at; next = place_past form k input at }

-- ---- what the functions ask and promise

-- each number has fourteen bits
abbrev pub Fourteens : List ℕ → Type 0
Fourteens vs = (i : ℕ) → get_or vs i 0 < 16384

-- the questions of a reading: what it gives, `end` where all get a yes; and then the k numbers `row` in `values`
pub record Row {A : Type 0} (qs : List Question) (end : A) (k : ℕ) (row values : List ℕ) (r : Result A Refusal) : Type 0 where
  pub answer : ReadAs (first_no qs) end r
  pub numbers : first_no qs ≡ all_yes → take k values ≡ row
