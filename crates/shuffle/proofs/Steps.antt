-- Numbering a list, and the exchanges of a shuffle.
-- Assumes nothing.
use mathlib.Core.Path.{◌≡◌, refl, ap, ◌∙◌}
use mathlib.Core.List.{List, [], ◌∷◌, ◌++◌}
use Prim.Native.Nat.{ℕ, zero, suc, ◌+◌, ◌-◌, ◌≤◌, ◌<◌, ◌%◌, ◌^◌}
use native.Mathlib.Nat.{mod-lt, mod-le}
use native.Mathlib.Numerals.{add-one}
use native.Mathlib.Omega.{arith}
use lib.ListN.{length, get_or, set, length-set, get_or-append}
use lib.Seq.{set-append_left}
use Rattle.permutation.specs.Permutations.{IsPermutation, tabulate, identity, exchanged}
use Rattle.permutation.proofs.Laws.{identity_permutation, exchanged_permutation}
use Rattle.shuffle.specs.Shuffled.{partner, stepped, shuffled}

-- ---- the exchanges

pub partner-below : (n i word : ℕ) → i < n → partner n i word < n
partner-below n i word l = let p : 0 < n - i = omega arith in omega (arith, mod-lt word p)

pub sum_fits : (i word m : ℕ) → i < 1024 → word < 2 ^ 32 → i + word % m < 2 ^ 64
sum_fits i word m l h = omega (arith, mod-le word m)

pub stepped-length : (i : ℕ) (words es : List ℕ) → length (stepped i words es) ≡ length es
unfolding stepped
stepped-length zero words es = refl
stepped-length (suc i) words es = simp length-set (stepped-length i words es)

module _ (words before : List ℕ) where
  pub none_stepped : before ≡ stepped 0 words before
  unfolding stepped
  none_stepped = refl

  pub one-stepped : {out : List ℕ} (i : ℕ) {j : ℕ} → j ≡ partner (length words) i (get_or words i 0) → out ≡ stepped i words before
      → exchanged out i j ≡ stepped (i + 1) words before
  unfolding stepped
  one-stepped i e S = rw (e, S, add-one)

-- exchanges in the front of a list leave the rest
exchanged-front : (a b : List ℕ) (i j : ℕ) → i < length a → j < length a → exchanged (a ++ b) i j ≡ exchanged a i j ++ b
exchanged-front a b i j li lj =
    rw (get_or-append a b 0 j lj, get_or-append a b 0 i li, set-append_left a b i (get_or a j 0) li)
    (set-append_left (set a i (get_or a j 0)) b j (get_or a i 0) (omega (arith, length-set a i (get_or a j 0))))

pub stepped-front : (i : ℕ) (words a b : List ℕ) → i ≤ length words → length a ≡ length words → stepped i words (a ++ b) ≡ stepped i words a ++ b
unfolding stepped
stepped-front zero words a b l e = refl
stepped-front (suc i) words a b l e =
    let j = partner (length words) i (get_or words i 0) in
    let long : length (stepped i words a) ≡ length words = stepped-length i words a ∙ e in
    ap (λ es. exchanged es i j) (stepped-front i words a b (omega arith) e)
    ∙ exchanged-front (stepped i words a) b i j (omega arith) (omega (arith, partner-below (length words) i (get_or words i 0) (omega arith)))

-- ---- a shuffle is a permutation, whatever the words

stepped_permutation : (i : ℕ) (words : List ℕ) → i ≤ length words → IsPermutation (length words) (stepped i words (identity (length words)))
unfolding stepped
stepped_permutation zero words l = identity_permutation (length words)
stepped_permutation (suc i) words l =
    exchanged_permutation i (partner (length words) i (get_or words i 0)) (length words) (stepped i words (identity (length words)))
    (stepped_permutation i words (omega arith)) (omega arith) (partner-below (length words) i (get_or words i 0) (omega arith))

pub shuffled_permutation : (words : List ℕ) → IsPermutation (length words) (shuffled words)
shuffled_permutation words = stepped_permutation (length words) words (omega arith)

-- 01, case j
pub case_j : shuffled (2 ∷ 1 ∷ 0 ∷ []) ≡ 2 ∷ 0 ∷ 1 ∷ []
unfolding stepped tabulate
case_j = refl
