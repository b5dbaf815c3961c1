-- How many entries stay home: all of the identity's, as many of an inverse's as of its permutation's, and after an exchange
-- only the two places count.
-- Assumes nothing.
use mathlib.Core.Path.{◌≡◌, sym, ap, ◌∙◌}
use mathlib.Core.Logic.{◌≢◌}
use mathlib.Core.Bool.{Bool}
use mathlib.Core.List.{List}
use Prim.Native.Nat.{ℕ, zero, suc, ◌+◌, ◌<◌}
use native.Mathlib.Omega.{arith}
use native.Mathlib.Decide.{ℕ_discrete}
use lib.Dec.{eqb}
use lib.ListN.{length, get_or, set, length-set}
use lib.Seq.{get_or-set_same, get_or-set_other}
use borrow.Author.Tests.{eq-eqb, ne_eqb}
use Rattle.permutation.specs.Permutations.{bit, how_many, IsPermutation, identity, exchanged, inverted, fixed_points}
use Rattle.permutation.proofs.Sweeps.{all_pass, same_count}
use Rattle.permutation.proofs.Inverses.{entry_of_inverted, inverted_of_entry, inverted_permutation}
use Rattle.permutation.proofs.Laws.{identity-at, identity-length}

-- ---- counting

-- two tests that differ at place i alone
one_changed : (f g : ℕ → Bool) (i : ℕ) → ((k : ℕ) → k ≢ i → f k ≡ g k) → (n : ℕ) → i < n
    → how_many f n + bit (g i) ≡ how_many g n + bit (f i)
unfolding how_many
one_changed f g i same zero l = absurd (omega arith)
one_changed f g i same (suc n) l = go (one_changed f g i same n) (ℕ_discrete i n)
  where
    go : (i < n → how_many f n + bit (g i) ≡ how_many g n + bit (f i)) → Dec (i ≡ n)
        → how_many f n + bit (f n) + bit (g i) ≡ how_many g n + bit (g n) + bit (f i)
    go r (yes e) =
        let s : how_many f n ≡ how_many g n = same_count f g n (λ k m. same k (λ q. omega arith)) in
        rw (e, s) (omega arith)
    go r (no e) =
        let s : bit (f n) ≡ bit (g n) = ap bit (same n (λ q. e (sym q))) in
        omega (arith, r (omega arith), s)

-- ---- entries that stay home

pub identity_fixed : (n : ℕ) → fixed_points (identity n) ≡ n
identity_fixed n =
    all_pass _ (length (identity n)) (λ i l. eq-eqb _ _ (identity-at n i (omega (arith, identity-length n)))) ∙ identity-length n

-- one entry written
set_fixed : (es : List ℕ) (i x : ℕ) → i < length es → fixed_points (set es i x) + bit (eqb (get_or es i 0) i) ≡ fixed_points es + bit (eqb x i)
set_fixed es i x l =
    rw (length-set es i x)
    (one_changed (λ k. eqb (get_or (set es i x) k 0) k) (λ k. eqb (get_or es k 0) k) i
    (λ k n. ap (λ y. eqb y k) (get_or-set_other es i k x 0 n)) (length es) l
    ∙ ap (λ y. how_many (λ k. eqb (get_or es k 0) k) (length es) + bit (eqb y i)) (get_or-set_same es i x 0 l))

-- two entries exchanged: what comes home at the two places, and what leaves; i may be j
pub exchanged_fixed : (es : List ℕ) (i j : ℕ) → i < length es → j < length es
    → fixed_points (exchanged es i j) + (bit (eqb (get_or es i 0) i) + bit (eqb (get_or es j 0) j))
    ≡ fixed_points es + (bit (eqb (get_or es j 0) i) + bit (eqb (get_or es i 0) j))
exchanged_fixed es i j li lj = omega (arith, first, second, ap (λ x. bit (eqb x j)) kept)
  where
    once : List ℕ
    once = set es i (get_or es j 0)

    first : fixed_points once + bit (eqb (get_or es i 0) i) ≡ fixed_points es + bit (eqb (get_or es j 0) i)
    first = set_fixed es i (get_or es j 0) li

    second : fixed_points (exchanged es i j) + bit (eqb (get_or once j 0) j) ≡ fixed_points once + bit (eqb (get_or es i 0) j)
    second = set_fixed once j (get_or es i 0) (omega (arith, length-set es i (get_or es j 0)))

    kept : get_or once j 0 ≡ get_or es j 0
    kept = go (ℕ_discrete j i)
      where
        go : Dec (j ≡ i) → get_or once j 0 ≡ get_or es j 0
        go (yes e) = ap (λ k. get_or once k 0) e ∙ get_or-set_same es i (get_or es j 0) 0 li
        go (no e) = get_or-set_other es i j (get_or es j 0) 0 e

-- the inverse: an entry stays home in both or in neither
pub inverted_fixed : (n : ℕ) (es : List ℕ) → IsPermutation n es → fixed_points (inverted es) ≡ fixed_points es
inverted_fixed n es P =
    let whole : length (inverted es) ≡ length es = (inverted_permutation n es P).whole ∙ sym P.whole in
    rw whole
    (same_count (λ i. eqb (get_or (inverted es) i 0) i) (λ i. eqb (get_or es i 0) i) (length es) (λ i l. alike i (omega (arith, P.whole))))
  where
    alike : (i : ℕ) → i < n → eqb (get_or (inverted es) i 0) i ≡ eqb (get_or es i 0) i
    alike i l = go (ℕ_discrete (get_or es i 0) i)
      where
        go : Dec (get_or es i 0 ≡ i) → eqb (get_or (inverted es) i 0) i ≡ eqb (get_or es i 0) i
        go (yes e) =
            let f : get_or (inverted es) i 0 ≡ i = ap (λ k. get_or (inverted es) k 0) (sym e) ∙ inverted_of_entry n es P i l in
            eq-eqb _ _ f ∙ sym (eq-eqb _ _ e)
        go (no e) =
            ne_eqb _ _ (λ f. e (ap (λ k. get_or es k 0) (sym f) ∙ entry_of_inverted n es P i l)) ∙ sym (ne_eqb _ _ e)
