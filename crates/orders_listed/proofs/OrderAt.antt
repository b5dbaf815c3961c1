-- Each listed order of n places is one: n entries, each below n, no two alike.
-- Assumes nothing.
use mathlib.Core.Path.{◌≡◌, refl, sym, ap, ◌∙◌}
use mathlib.Core.List.{List, [], ◌∷◌, map}
use Prim.Native.Nat.{ℕ, zero, suc, ◌/◌, ◌%◌, ◌≤◌, ◌<◌}
use native.Mathlib.Nat.{mul-pos, mod-lt, div-lt_iff_lt-mul}
use native.Mathlib.Omega.{arith}
use native.Mathlib.Decide.{dec_lt}
use lib.Dec.{leb}
use lib.ListN.{length, get_or, length-map, get_or-eq_default}
use borrow.Author.Tests.{leb-true}
use Rattle.answers.specs.Questions.{first_bad_from}
use Rattle.answers.proofs.Questions.{all_good}
use Rattle.permutation.specs.Permutations.{IsPermutation}
use Rattle.control_sweeps.specs.Tables.{Below}
use Rattle.orders_listed.specs.Ranks.{factorial, past, order_at}
use Rattle.orders_listed.proofs.Past.{past-below, past_misses, past_unlike}

pub factorial_positive : (n : ℕ) → 0 < factorial n
unfolding factorial
factorial_positive zero = omega arith
factorial_positive (suc n) = mul-pos (omega arith) (factorial_positive n)

pub factorial_small : (n : ℕ) → n ≤ 6 → factorial n ≤ 720
unfolding factorial first_bad_from
factorial_small n h = leb-true (factorial n) 720 (all_good (λ i. leb (factorial i) 720) 7 refl n (omega arith))

-- the first entry, and the number of the other places' order
pub first_below : (n r : ℕ) → r < factorial (suc n) → r / factorial n < suc n
unfolding factorial
first_below n r l = (div-lt_iff_lt-mul {k = factorial n} {x = r} {y = suc n} (factorial_positive n)).1 l

pub rest_below : (n r : ℕ) → r % factorial n < factorial n
rest_below n r = mod-lt r (factorial_positive n)

pub length_order_at : (n r : ℕ) → length (order_at n r) ≡ n
unfolding order_at
length_order_at zero r = refl
length_order_at (suc n) r = ap suc (length-map (order_at n (r % factorial n)) (past (r / factorial n)) ∙ length_order_at n (r % factorial n))

pub get_d_map : (f : ℕ → ℕ) (xs : List ℕ) (i : ℕ) → i < length xs → get_or (map f xs) i 0 ≡ f (get_or xs i 0)
get_d_map f [] i l = absurd (omega arith)
get_d_map f (x ∷ xs) zero l = refl
get_d_map f (x ∷ xs) (suc i) l = get_d_map f xs i (omega arith)

-- d, and then an order of the places but d
abbrev begun : ℕ → List ℕ → List ℕ
begun d es = d ∷ map (past d) es

module _ (n d : ℕ) (es : List ℕ) (d-below : d < suc n) (P : IsPermutation n es) where
  rest_at : (i : ℕ) → i < n → get_or (map (past d) es) i 0 ≡ past d (get_or es i 0)
  rest_at i l = get_d_map (past d) es i (omega (arith, P.whole))

  begun-below : (i : ℕ) → i < suc n → get_or (begun d es) i 0 < suc n
  begun-below zero l = d-below
  begun-below (suc i) l = rw (rest_at i (omega arith)) (past-below d n (get_or es i 0) (P.below i (omega arith)))

  begun_unlike : (i j : ℕ) → i < suc n → j < suc n → get_or (begun d es) i 0 ≡ get_or (begun d es) j 0 → i ≡ j
  begun_unlike zero zero k l e = refl
  begun_unlike zero (suc j) k l e = absurd (past_misses d (get_or es j 0) (sym (e ∙ rest_at j (omega arith))))
  begun_unlike (suc i) zero k l e = absurd (past_misses d (get_or es i 0) (sym (rest_at i (omega arith)) ∙ e))
  begun_unlike (suc i) (suc j) k l e =
      ap suc (P.unlike i j (omega arith) (omega arith)
      (past_unlike d (get_or es i 0) (get_or es j 0) (sym (rest_at i (omega arith)) ∙ e ∙ rest_at j (omega arith))))

  begun_permutation : IsPermutation (suc n) (begun d es)
  begun_permutation = record { whole = ap suc (length-map es (past d) ∙ P.whole); below = begun-below; unlike = begun_unlike }

pub order_permutation : (n r : ℕ) → r < factorial n → IsPermutation n (order_at n r)
unfolding order_at
order_permutation zero r l = record { whole = refl; below = λ i h. absurd (omega arith); unlike = λ i j h k e. absurd (omega arith) }
order_permutation (suc n) r l =
    begun_permutation n (r / factorial n) (order_at n (r % factorial n)) (first_below n r l)
    (order_permutation n (r % factorial n) (rest_below n r))

pub order_below : (n r b : ℕ) → r < factorial n → n ≤ b → 0 < b → Below b (order_at n r)
unfolding Below
order_below n r b l h p i = on (dec_lt i n)
  where
    on : Dec (i < n) → get_or (order_at n r) i 0 < b
    on (yes k) = omega (arith, (order_permutation n r l).below i k)
    on (no k) = rw (get_or-eq_default (order_at n r) 0 {n = i} (omega (arith, length_order_at n r))) p
