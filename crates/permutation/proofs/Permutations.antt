-- Permutations as lists: question 6 asks for one, and each has an inverse.
-- Assumes nothing.
use mathlib.Core.Path.{◌≡◌, refl, sym, ap, ◌∙◌}
use mathlib.Core.Logic.{◌≢◌}
use mathlib.Core.Bool.{Bool, true, false, ◌&&◌}
use mathlib.Core.List.{List}
use Prim.Native.Nat.{ℕ, ◌≤◌, ◌<◌}
use native.Mathlib.Omega.{arith}
use native.Mathlib.Decide.{dec_lt}
use lib.Dec.{eqb, ltb}
use lib.ListN.{length, get_or, take}
use lib.Seq.{length-take-le, get_or-take}
use borrow.Author.Tests.{ne_eqb, eqb-true, eqb-false, ltb-true, lt-ltb}
use Rattle.answers.proofs.Questions.{all_good, none_bad}
use Rattle.permutation.specs.Permutations.{matches, good_entry, first_bad_entry, IsPermutation}
use Rattle.permutation.proofs.Sweeps.{none_passes, all_fail, same_count}

pub both_true : (a b : Bool) → (a && b) ≡ true → (a ≡ true) × (b ≡ true)
both_true true true e = (refl, refl)
both_true true false e = (refl, e)
both_true false b e = absurd (let z : ◌≡◌ {A = ℕ} 0 1 = cc in omega arith)

-- ---- question 6 at one index, in words

module _ (n : ℕ) (es : List ℕ) (i : ℕ) where
  -- as the code finds it, from an entry and its matches
  pub good_found : {x c : ℕ} → x ≡ get_or es i 0 → c ≡ matches es i (get_or es i 0) → (ltb x n && eqb c 0) ≡ good_entry n es i
  unfolding good_entry
  good_found e f = rw (e, f)

  pub good_below : good_entry n es i ≡ true → get_or es i 0 < n
  unfolding good_entry
  good_below e = ltb-true _ _ (both_true (ltb (get_or es i 0) n) _ e).0

  pub good_unlike : good_entry n es i ≡ true → (j : ℕ) → j < i → get_or es j 0 ≢ get_or es i 0
  unfolding good_entry
  good_unlike e j l =
      eqb-false _ _
      (none_passes (λ k. eqb (get_or es k 0) (get_or es i 0)) i (eqb-true _ _ (both_true (ltb (get_or es i 0) n) _ e).1) j l)

  pub good_when : get_or es i 0 < n → ((j : ℕ) → j < i → get_or es j 0 ≢ get_or es i 0) → good_entry n es i ≡ true
  unfolding good_entry
  good_when b u =
      rw (lt-ltb _ _ b, all_fail (λ k. eqb (get_or es k 0) (get_or es i 0)) i (λ j l. ne_eqb _ _ (u j l)))

-- it depends on the entries up to i alone
pub same_good : (n : ℕ) (a b : List ℕ) (i : ℕ) → ((j : ℕ) → j ≤ i → get_or a j 0 ≡ get_or b j 0) → good_entry n a i ≡ good_entry n b i
unfolding good_entry
same_good n a b i h =
    rw (h i (omega arith), same_count (λ j. eqb (get_or a j 0) (get_or b i 0)) (λ j. eqb (get_or b j 0) (get_or b i 0)) i (λ j l. ap (λ x. eqb x (get_or b i 0)) (h j (omega arith))))

-- the entries before one, as a list of their own
pub matches_before : (es : List ℕ) (i x : ℕ) → i ≤ length es → matches (take i es) (length (take i es)) x ≡ matches es i x
matches_before es i x h =
    ap (λ k. matches (take i es) k x) (length-take-le i es h)
    ∙ same_count (λ j. eqb (get_or (take i es) j 0) x) (λ j. eqb (get_or es j 0) x) i (λ j l. ap (λ y. eqb y x) (get_or-take i es j 0 l))

-- ---- a list passes question 6 exactly when it is a permutation

pub passes_permutation : (es : List ℕ) → first_bad_entry es ≡ length es → IsPermutation (length es) es
passes_permutation es e =
    record {
      whole = refl;
      below = λ i l. good_below _ es i (all i l);
      unlike = λ i j li lj q. apart i j li lj q (dec_lt i j) (dec_lt j i);
    }
  where
    all : (i : ℕ) → i < length es → good_entry (length es) es i ≡ true
    all = all_good (good_entry (length es) es) (length es) e

    apart : (i j : ℕ) → i < length es → j < length es → get_or es i 0 ≡ get_or es j 0 → Dec (i < j) → Dec (j < i) → i ≡ j
    apart i j li lj q (yes l) d = absurd (good_unlike _ es j (all j lj) i l q)
    apart i j li lj q (no l) (yes m) = absurd (good_unlike _ es i (all i li) j m (sym q))
    apart i j li lj q (no l) (no m) = omega arith

pub permutation_passes : (n : ℕ) (es : List ℕ) → IsPermutation n es → first_bad_entry es ≡ length es
permutation_passes n es P =
    none_bad (good_entry (length es) es) (length es)
    (λ i l. good_when _ es i (omega (arith, P.whole, P.below i (omega (arith, P.whole))))
    (λ j m q. absurd (omega (arith, P.unlike j i (omega (arith, P.whole)) (omega (arith, P.whole)) q))))
