-- Every order of n places is listed, and only once.
-- Assumes nothing.
use mathlib.Core.Path.{◌≡◌, refl, sym, ap, ◌∙◌}
use mathlib.Core.Logic.{◌≢◌}
use mathlib.Core.List.{List, [], ◌∷◌, map}
use Prim.Native.Nat.{ℕ, zero, suc, ◌+◌, ◌*◌, ◌/◌, ◌%◌, ◌<◌}
use native.Mathlib.Nat.{mul-le-mul_right, mul-add-div_right, mul-add-mod_self_right, div-eq_of_lt, mod-eq_of_lt}
use native.Mathlib.Omega.{arith}
use lib.ListN.{length, get_or, length-map}
use lib.Seq.{ext_get_or}
use Rattle.permutation.specs.Permutations.{IsPermutation}
use Rattle.orders_listed.specs.Ranks.{factorial, past, order_at, ListedOnce}
use Rattle.orders_listed.proofs.Past.{number, number-below, number_unlike, past-number}
use Rattle.orders_listed.proofs.OrderAt.{factorial_positive, get_d_map}
use Rattle.orders_listed.proofs.Dictionary.{same_rank}

-- an order with a rank has no other
once : (n r : ℕ) (order : List ℕ) → r < factorial n → order_at n r ≡ order → ListedOnce n order
once n r order l e =
    record { rank = r; rank_below = l; listed = e; only = λ s k f. same_rank n s r k l (f ∙ sym e) }

-- an order that begins with d: the others by their numbers among the places but d
module _ (n d : ℕ) (es : List ℕ) (P : IsPermutation (suc n) (d ∷ es)) where
  long : length es ≡ n
  long = omega (arith, P.whole)

  other : (i : ℕ) → i < n → get_or es i 0 ≢ d
  other i l e = omega (arith, P.unlike (suc i) zero (omega arith) (omega arith) e)

  numbers_at_lem : (i : ℕ) → i < n → get_or (map (number d) es) i 0 ≡ number d (get_or es i 0)
  numbers_at_lem i l = get_d_map (number d) es i (omega (arith, long))

  numbers_permutation : IsPermutation n (map (number d) es)
  numbers_permutation =
      record {
        whole = length-map es (number d) ∙ long;
        below = λ i l. rw (numbers_at_lem i l)
            (number-below d n (get_or es i 0) (other i l) (P.below zero (omega arith)) (P.below (suc i) (omega arith)));
        unlike = λ i j k l e.
            let s : suc i ≡ suc j =
            P.unlike (suc i) (suc j) (omega arith) (omega arith)
            (number_unlike d (get_or es i 0) (get_or es j 0) (other i k) (other j l) (sym (numbers_at_lem i k) ∙ e ∙ numbers_at_lem j l)) in
            omega arith;
      }

  past_numbers : map (past d) (map (number d) es) ≡ es
  past_numbers = ext_get_or 0 _ es (whole ∙ sym long) (λ i l. same i (omega (arith, whole)))
    where
      numbers : List ℕ
      numbers = map (number d) es

      whole : length (map (past d) numbers) ≡ n
      whole = length-map numbers (past d) ∙ numbers_permutation.whole

      same : (i : ℕ) → i < n → get_or (map (past d) numbers) i 0 ≡ get_or es i 0
      same i l =
          get_d_map (past d) numbers i (omega (arith, numbers_permutation.whole))
          ∙ ap (past d) (numbers_at_lem i l)
          ∙ past-number d (get_or es i 0) (other i l)

  next : ListedOnce n (map (number d) es) → ListedOnce (suc n) (d ∷ es)
  unfolding factorial order_at
  next L =
      once (suc n) (d * f + r) (d ∷ es)
      (omega (arith, mul-le-mul_right f (P.below zero (omega arith)), L.rank_below))
      (rw (first, rest, L.listed, past_numbers))
    where
      f : ℕ
      f = factorial n

      r : ℕ
      r = L.rank

      first : (d * f + r) / f ≡ d
      first = omega (arith, mul-add-div_right (factorial_positive n) d r, div-eq_of_lt L.rank_below)

      rest : (d * f + r) % f ≡ r
      rest = mul-add-mod_self_right d f r ∙ mod-eq_of_lt L.rank_below

pub listed_once : (n : ℕ) (order : List ℕ) → IsPermutation n order → ListedOnce n order
unfolding factorial order_at
listed_once zero [] P = once zero 0 [] (omega arith) refl
listed_once zero (d ∷ es) P = absurd (omega (arith, P.whole))
listed_once (suc n) [] P = absurd (omega (arith, P.whole))
listed_once (suc n) (d ∷ es) P = next n d es P (listed_once n (map (number d) es) (numbers_permutation n d es P))
