-- Numbers in a row, whatever the form of one: one more, how many, how large, and that a row that is written is read back.
-- Assumes nothing.
use mathlib.Core.Path.{◌≡◌, refl, sym, ap, ◌∙◌}
use mathlib.Core.List.{List, [], ◌∷◌, ◌++◌, append_assoc, append-nil}
use Prim.Native.Nat.{ℕ, zero, suc, ◌+◌, ◌*◌, ◌≤◌, ◌<◌}
use native.Mathlib.Omega.{arith}
use lib.ListN.{length, length-append}
use Rattle.answers.specs.Questions.{all_yes, first_no, Numbered}
use Rattle.answers.proofs.Questions.{asked-both}
use Rattle.answers.proofs.Outcomes.{numbered_both}
use Rattle.numbers.specs.Numbers.{NumberForm, Reads}
use Rattle.numbers.proofs.Numbers.{ReadBack}
use Rattle.rows.specs.Rows.{numbers_bytes, numbers_questions, numbers_at, place_past, Fourteens}

module _ (form : NumberForm) (input : List ℕ) where
  -- one number more
  pub place_more : (j start : ℕ) → place_past form (suc j) input start ≡ (form.read input (place_past form j input start)).next
  unfolding place_past
  place_more zero start = refl
  place_more (suc j) start = place_more j (form.read input start).next

  pub numbers_more :
      (j start : ℕ)
      → numbers_at form (suc j) input start ≡ numbers_at form j input start ++ ((form.read input (place_past form j input start)).value ∷ [])
  unfolding numbers_at place_past
  numbers_more zero start = refl
  numbers_more (suc j) start = ap (λ vs. (form.read input start).value ∷ vs) (numbers_more j (form.read input start).next)

  pub numbers_length : (k at : ℕ) → length (numbers_at form k input at) ≡ k
  unfolding numbers_at
  numbers_length zero at = refl
  numbers_length (suc k) at = ap suc (numbers_length k (form.read input at).next)

  -- each has fourteen bits at most, where one has
  pub numbers_fit : ((at : ℕ) → (form.read input at).value < 16384) → (k at : ℕ) → Fourteens (numbers_at form k input at)
  unfolding numbers_at
  numbers_fit small zero at i = omega arith
  numbers_fit small (suc k) at zero = small at
  numbers_fit small (suc k) at (suc i) = numbers_fit small k (form.read input at).next i

  -- each question's number is above 0, where those of one number are
  pub numbered_row : ((at : ℕ) → Numbered (form.questions input at)) → (k at : ℕ) → Numbered (numbers_questions form k input at)
  unfolding numbers_questions
  numbered_row one zero at = tt
  numbered_row one (suc k) at =
      let next = (form.read input at).next in
      numbered_both (form.questions input at) (numbers_questions form k input next) (one at) (numbered_row one k next)

-- ---- the bytes of a row

module _ (form : NumberForm) where
  pub bytes_more : (vs : List ℕ) (v : ℕ) → numbers_bytes form (vs ++ (v ∷ [])) ≡ numbers_bytes form vs ++ form.bytes v
  unfolding numbers_bytes
  bytes_more [] v = append-nil (form.bytes v)
  bytes_more (x ∷ vs) v = rw (bytes_more vs v, append_assoc)

  -- no more than two for each number, where one takes no more
  pub bytes_most : ((v : ℕ) → length (form.bytes v) ≤ 2) → (vs : List ℕ) → length (numbers_bytes form vs) ≤ 2 * length vs
  unfolding numbers_bytes
  bytes_most few [] = omega arith
  bytes_most few (v ∷ vs) = omega (arith, length-append (form.bytes v) (numbers_bytes form vs), few v, bytes_most few vs)

-- ---- a row that is written is read back

pub record Back (form : NumberForm) (input : List ℕ) (at : ℕ) (vs : List ℕ) (past : ℕ) : Type 0 where
  pub asked : first_no (numbers_questions form (length vs) input at) ≡ all_yes
  pub numbers : numbers_at form (length vs) input at ≡ vs
  pub place : place_past form (length vs) input at ≡ past

pub row_back :
    (form : NumberForm) → ReadBack form
    → (vs input xs ys : List ℕ)
    → input ≡ xs ++ (numbers_bytes form vs ++ ys)
    → Fourteens vs
    → Back form input (length xs) vs (length xs + length (numbers_bytes form vs))
unfolding numbers_questions numbers_at place_past numbers_bytes
row_back form one [] input xs ys e f =
    let z : length xs + 0 ≡ length xs = omega arith in
    record { asked = refl; numbers = refl; place = sym z }
row_back form one (v ∷ vs) input xs ys e f =
    let nb = form.bytes v in
    let rest = numbers_bytes form vs in
    let N : Reads form input (length xs) v (length xs + length nb) = rw (e, append_assoc nb rest ys) (one xs (rest ++ ys) v (f 0)) in
    let B = row_back form one vs input (xs ++ nb) ys (e ∙ simp append_assoc) (λ i. f (suc i)) in
    let p : (form.read input (length xs)).next ≡ length (xs ++ nb) = N.next ∙ sym (length-append xs nb) in
    record {
      asked =
          asked-both (form.questions input (length xs)) (numbers_questions form (length vs) input (form.read input (length xs)).next)
          N.asked
          ∙ rw p B.asked;
      numbers = rw (N.value, p, B.numbers);
      place =
          let z : length (xs ++ nb) + length rest ≡ length xs + length (nb ++ rest) =
          omega (arith, length-append xs nb, length-append nb rest)
          in
          ap (place_past form (length vs) input) p ∙ B.place ∙ z;
    }
