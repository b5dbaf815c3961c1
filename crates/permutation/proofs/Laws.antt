-- Laws of the operations on permutations: each gives one, and together they are a group's.
-- Assumes nothing.
use mathlib.Core.Path.{◌≡◌, refl, sym, ap, ◌∙◌}
use mathlib.Core.Logic.{◌≢◌}
use mathlib.Core.Bool.{cond}
use mathlib.Core.List.{List}
use Prim.Native.Nat.{ℕ, ◌<◌}
use native.Mathlib.Omega.{arith}
use native.Mathlib.Decide.{ℕ_discrete}
use lib.Dec.{eqb}
use lib.ListN.{length, get_or, set, length-set}
use lib.Seq.{ext_get_or, get_or-set_same, get_or-set_other}
use borrow.Author.Tests.{eq-eqb, ne_eqb}
use Rattle.permutation.specs.Permutations.{IsPermutation, identity, exchanged, combined, inverted}
use Rattle.permutation.proofs.Tables.{length-tabulate, tabulate-at, is_tabulate}
use Rattle.permutation.proofs.Inverses.{inverted_permutation, inverted_of_entry, entry_of_inverted}

-- two permutations with the same entries
same_entries : (n : ℕ) (a b : List ℕ) → length a ≡ n → length b ≡ n → ((i : ℕ) → i < n → get_or a i 0 ≡ get_or b i 0) → a ≡ b
same_entries n a b e f h = ext_get_or 0 a b (e ∙ sym f) (λ i l. h i (omega arith))

-- ---- the identity

pub identity-at : (n i : ℕ) → i < n → get_or (identity n) i 0 ≡ i
identity-at n i l = tabulate-at (λ k. k) n i l

pub identity-length : (n : ℕ) → length (identity n) ≡ n
identity-length n = length-tabulate (λ k. k) n

pub identity_permutation : (n : ℕ) → IsPermutation n (identity n)
identity_permutation n =
    record {
      whole = identity-length n;
      below = λ i l. rw (identity-at n i l) l;
      unlike = λ i j li lj e. sym (identity-at n i li) ∙ e ∙ identity-at n j lj;
    }

-- ---- exchanging two entries: place k then holds what stood at `swapped i j k`

abbrev pub swapped : ℕ → ℕ → ℕ → ℕ
swapped i j k = cond (eqb k j) i (cond (eqb k i) j k)

module _ (i j : ℕ) where
  swap_second : swapped i j j ≡ i
  swap_second = rw (eq-eqb j j refl)

  swap_first : swapped i j i ≡ j
  swap_first = go (ℕ_discrete i j)
    where
      go : Dec (i ≡ j) → swapped i j i ≡ j
      go (yes e) = rw (eq-eqb i j e) e
      go (no e) = rw (ne_eqb i j e, eq-eqb i i refl)

  swap_other : (k : ℕ) → k ≢ i → k ≢ j → swapped i j k ≡ k
  swap_other k a b = rw (ne_eqb k j b, ne_eqb k i a)

  swap_twice : (k : ℕ) → swapped i j (swapped i j k) ≡ k
  swap_twice k = go (ℕ_discrete k i) (ℕ_discrete k j)
    where
      go : Dec (k ≡ i) → Dec (k ≡ j) → swapped i j (swapped i j k) ≡ k
      go d (yes b) = rw b (ap (swapped i j) swap_second ∙ swap_first)
      go (yes a) (no b) = rw a (ap (swapped i j) swap_first ∙ swap_second)
      go (no a) (no b) = ap (swapped i j) (swap_other k a b) ∙ swap_other k a b

  module _ (n : ℕ) (es : List ℕ) (P : IsPermutation n es) (i-below : i < n) (j_below : j < n) where
    swap_below : (k : ℕ) → k < n → swapped i j k < n
    swap_below k l = go (ℕ_discrete k i) (ℕ_discrete k j)
      where
        go : Dec (k ≡ i) → Dec (k ≡ j) → swapped i j k < n
        go d (yes b) = rw (b, swap_second) i-below
        go (yes a) (no b) = rw (a, swap_first) j_below
        go (no a) (no b) = rw (swap_other k a b) l

    pub exchanged-at : (k : ℕ) → k < n → get_or (exchanged es i j) k 0 ≡ get_or es (swapped i j k) 0
    exchanged-at k l = go (ℕ_discrete k i) (ℕ_discrete k j)
      where
        once : List ℕ
        once = set es i (get_or es j 0)

        room : j < length once
        room = omega (arith, length-set es i (get_or es j 0), P.whole)

        go : Dec (k ≡ i) → Dec (k ≡ j) → get_or (exchanged es i j) k 0 ≡ get_or es (swapped i j k) 0
        go d (yes b) = rw (b, swap_second) (get_or-set_same once j (get_or es i 0) 0 room)
        go (yes a) (no b) =
            rw (a, swap_first)
            (get_or-set_other once j i (get_or es i 0) 0 (λ e. b (a ∙ e)) ∙ get_or-set_same es i (get_or es j 0) 0 (omega (arith, P.whole)))
        go (no a) (no b) =
            rw (swap_other k a b)
            (get_or-set_other once j k (get_or es i 0) 0 b ∙ get_or-set_other es i k (get_or es j 0) 0 a)

    pub exchanged_permutation : IsPermutation n (exchanged es i j)
    exchanged_permutation =
        record {
          whole = simp length-set P.whole;
          below = λ k l. rw (exchanged-at k l) (P.below (swapped i j k) (swap_below k l));
          unlike = λ k m lk lm e.
              let s : swapped i j k ≡ swapped i j m =
              P.unlike (swapped i j k) (swapped i j m) (swap_below k lk) (swap_below m lm) (sym (exchanged-at k lk) ∙ e ∙ exchanged-at m lm) in
              sym (swap_twice k) ∙ ap (swapped i j) s ∙ swap_twice m;
        }

-- ---- combining

pub combined-length : (a b : List ℕ) → length (combined a b) ≡ length a
combined-length a b = length-tabulate (λ i. get_or b (get_or a i 0) 0) (length a)

-- first, then second
pub combined-at : (a b : List ℕ) (i : ℕ) → i < length a → get_or (combined a b) i 0 ≡ get_or b (get_or a i 0) 0
combined-at a b i l = tabulate-at (λ k. get_or b (get_or a k 0) 0) (length a) i l

module _ (n : ℕ) (a : List ℕ) (A : IsPermutation n a) where
  at : (b : List ℕ) (i : ℕ) → i < n → get_or (combined a b) i 0 ≡ get_or b (get_or a i 0) 0
  at b i l = combined-at a b i (omega (arith, A.whole))

  long : (b : List ℕ) → length (combined a b) ≡ n
  long b = combined-length a b ∙ A.whole

  pub combined_permutation : (b : List ℕ) → IsPermutation n b → IsPermutation n (combined a b)
  combined_permutation b B =
      record {
        whole = long b;
        below = λ i l. rw (at b i l) (B.below (get_or a i 0) (A.below i l));
        unlike = λ i j li lj e.
            A.unlike i j li lj (B.unlike (get_or a i 0) (get_or a j 0) (A.below i li) (A.below j lj) (sym (at b i li) ∙ e ∙ at b j lj));
      }

  pub combined-identity : combined a (identity n) ≡ a
  combined-identity = same_entries n _ a (long (identity n)) A.whole (λ i l. at (identity n) i l ∙ identity-at n (get_or a i 0) (A.below i l))

  pub identity-combined : combined (identity n) a ≡ a
  identity-combined =
      same_entries n _ a (combined-length (identity n) a ∙ identity-length n) A.whole
      (λ i l. combined-at (identity n) a i (omega (arith, identity-length n)) ∙ ap (λ k. get_or a k 0) (identity-at n i l))

  pub combined-inverted : combined a (inverted a) ≡ identity n
  combined-inverted =
      is_tabulate (λ i. i) n (combined a (inverted a)) (long (inverted a)) (λ i l. at (inverted a) i l ∙ inverted_of_entry n a A i l)

-- the other way round: first the inverse
pub inverted-combined : (n : ℕ) (a : List ℕ) → IsPermutation n a → combined (inverted a) a ≡ identity n
inverted-combined n a A =
    let I = inverted_permutation n a A in
    is_tabulate (λ i. i) n (combined (inverted a) a) (long n (inverted a) I a) (λ v l. at n (inverted a) I a v l ∙ entry_of_inverted n a A v l)

pub inverted-inverted : (n : ℕ) (a : List ℕ) → IsPermutation n a → inverted (inverted a) ≡ a
inverted-inverted n a A =
    let I = inverted_permutation n a A in
    let J = inverted_permutation n (inverted a) I in
    same_entries n _ a J.whole A.whole
    (λ i l. ap (λ k. get_or (inverted (inverted a)) k 0) (sym (inverted_of_entry n a A i l))
    ∙ inverted_of_entry n (inverted a) I (get_or a i 0) (A.below i l))

pub combined_associative : (n : ℕ) (a b c : List ℕ) → IsPermutation n a → IsPermutation n b → combined (combined a b) c ≡ combined a (combined b c)
combined_associative n a b c A B =
    same_entries n _ _ (combined-length (combined a b) c ∙ long n a A b) (long n a A (combined b c))
    (λ i l. combined-at (combined a b) c i (omega (arith, long n a A b))
    ∙ ap (λ k. get_or c k 0) (at n a A b i l)
    ∙ sym (at n a A (combined b c) i l ∙ at n b B c (get_or a i 0) (A.below i l)))
