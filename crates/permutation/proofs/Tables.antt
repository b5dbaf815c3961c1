-- Laws of `tabulate`, and of lists of one value.
-- Assumes nothing.
use mathlib.Core.Path.{◌≡◌, refl, sym, ◌∙◌}
use mathlib.Core.List.{List, [], ◌∷◌, ◌++◌, append_assoc}
use Prim.Native.Nat.{ℕ, zero, suc, ◌+◌, ◌<◌}
use native.Mathlib.Numerals.{add-one}
use native.Mathlib.Omega.{arith}
use native.Mathlib.Decide.{dec_lt}
use lib.ListN.{length, get_or, set, replicate, length-append, get_or-append}
use lib.Seq.{get_or_at, set_at, ext_get_or}
use Rattle.permutation.specs.Permutations.{tabulate}

pub get_d_blank : {A : Type 0} (n i : ℕ) (a : A) → get_or (replicate n a) i a ≡ a
get_d_blank zero i a = refl
get_d_blank (suc n) zero a = refl
get_d_blank (suc n) (suc i) a = get_d_blank n i a

module _ (f : ℕ → ℕ) where
  pub length-tabulate : (n : ℕ) → length (tabulate f n) ≡ n
  unfolding tabulate
  length-tabulate zero = refl
  length-tabulate (suc n) = length-append (tabulate f n) (f n ∷ []) ∙ rw (length-tabulate n, add-one)

  -- entry i is f i
  pub tabulate-at : (n i : ℕ) → i < n → get_or (tabulate f n) i 0 ≡ f i
  unfolding tabulate
  tabulate-at zero i l = absurd (omega arith)
  tabulate-at (suc n) i l = go (tabulate-at n) (dec_lt i n)
    where
      go : ((i : ℕ) → i < n → get_or (tabulate f n) i 0 ≡ f i) → Dec (i < n) → get_or (tabulate f n ++ (f n ∷ [])) i 0 ≡ f i
      go r (yes x) = get_or-append (tabulate f n) (f n ∷ []) 0 i (omega (arith, length-tabulate n)) ∙ r i x
      go r (no x) = let e : i ≡ n = omega arith in rw e (get_or_at (tabulate f n) (f n) [] 0 n (length-tabulate n))

  -- a list is the table of what its entries are
  pub is_tabulate : (n : ℕ) (es : List ℕ) → length es ≡ n → ((i : ℕ) → i < n → get_or es i 0 ≡ f i) → es ≡ tabulate f n
  is_tabulate n es e h =
      ext_get_or 0 es (tabulate f n) (e ∙ sym (length-tabulate n))
      (λ i l. h i (omega arith) ∙ sym (tabulate-at n i (omega arith)))

  -- one entry more, over the front of a list
  pub tabulate_more : (n x : ℕ) (rest : List ℕ) → set (tabulate f n ++ (x ∷ rest)) n (f n) ≡ tabulate f (n + 1) ++ rest
  unfolding tabulate
  tabulate_more n x rest = rw (add-one, append_assoc) (set_at (tabulate f n) x rest (f n) n (length-tabulate n))
