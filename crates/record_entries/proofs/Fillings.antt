-- Loops that fill the entries of a record.
-- Assumes nothing.
use mathlib.Core.Path.{◌≡◌, sym, ap, ◌∙◌}
use mathlib.Core.Logic.{◌≢◌}
use mathlib.Core.List.{List}
use Prim.Native.Nat.{ℕ, ◌+◌, ◌≤◌, ◌<◌}
use native.Mathlib.Omega.{arith}
use native.Mathlib.Decide.{ℕ_discrete}
use lib.ListN.{length, get_or, set, take, replicate, length-replicate, length-set}
use lib.Seq.{get_or-set_same, get_or-set_other, get_or-take}
use Rattle.permutation.specs.Permutations.{IsPermutation, combined, fixed_points, inverted, place_of}
use Rattle.permutation.proofs.Tables.{get_d_blank}
use Rattle.permutation.proofs.Laws.{combined-length, combined-at}
use Rattle.permutation.proofs.Inverses.{place-below, place_holds, inverted-at, inverted_permutation}
use Rattle.record_entries.specs.Entries.{padded}
use Rattle.record_entries.specs.Fillings.{counted_of}
use Rattle.record_entries.specs.declared.Counted.{Counted}
use Rattle.record_entries.proofs.Entries.{is_padded_of, front_padded}

-- f j stands at `place j` for each j below i, and 0 past n
pub record Filling (place f : ℕ → ℕ) (n : ℕ) (e : List ℕ) (i : ℕ) : Type 0 where
  pub within : i ≤ n
  pub same : length e ≡ 1024
  pub done : (j : ℕ) → j < i → get_or e (place j) 0 ≡ f j
  pub past : (v : ℕ) → n ≤ v → get_or e v 0 ≡ 0

module _ (place f : ℕ → ℕ) (n : ℕ) where
  pub filling_starts : Filling place f n (replicate 1024 0) 0
  filling_starts =
      record {
        within = omega arith;
        same = length-replicate {A = ℕ} 1024 0;
        done = λ j l. absurd (omega arith);
        past = λ v l. get_d_blank {A = ℕ} 1024 v 0;
      }

  pub filling_more :
      {e : List ℕ} {i k x : ℕ}
      → i < n
      → n ≤ 1024
      → k ≡ place i
      → k < n
      → ((j : ℕ) → j < i → place j ≢ place i)
      → x ≡ f i
      → Filling place f n e i
      → Filling place f n (set e k x) (i + 1)
  filling_more {e} {i} {k} {x} l h p b u t F =
      record {
        within = omega arith;
        same = length-set e k x ∙ F.same;
        done = λ j m. go j m (ℕ_discrete j i);
        past = λ v m. get_or-set_other e k v x 0 (λ q. omega arith) ∙ F.past v m;
      }
    where
      go : (j : ℕ) → j < i + 1 → Dec (j ≡ i) → get_or (set e k x) (place j) 0 ≡ f j
      go j m (yes q) = rw (q, ← p) (get_or-set_same e k x 0 (omega (arith, F.same)) ∙ t)
      go j m (no q) =
          get_or-set_other e k (place j) x 0 (λ z. u j (omega arith) (z ∙ p)) ∙ F.done j (omega arith)

-- entries written in their sequence
pub filled : (f : ℕ → ℕ) (n : ℕ) (es : List ℕ) {e : List ℕ} {i : ℕ} → n ≤ 1024 → n ≤ i → length es ≡ n → ((v : ℕ) → v < n → get_or es v 0 ≡ f v)
    → Filling (λ j. j) f n e i → e ≡ padded es
filled f n es {e} h l k t F =
    is_padded_of n e es F.same h k (λ v m. F.done v (omega (arith, F.within)) ∙ sym (t v m)) F.past

-- each place written where its entry says
pub filled_back : (n : ℕ) (es : List ℕ) {e : List ℕ} {i : ℕ} → IsPermutation n es → n ≤ 1024 → n ≤ i
    → Filling (λ j. get_or es j 0) (λ j. j) n e i → e ≡ padded (inverted es)
filled_back n es {e} P h l F =
    is_padded_of n e (inverted es) F.same h (inverted_permutation n es P).whole
    (λ v m. ap (λ k. get_or e k 0) (sym (place_holds n es P v m))
    ∙ F.done (place_of es v) (omega (arith, place-below n es P v m))
    ∙ sym (inverted-at n es P v m))
    F.past

-- what combining writes at i, read from the second record's array
pub combined_read : (n : ℕ) (a b : List ℕ) (i : ℕ) {k : ℕ} → k ≡ get_or (take n a) i 0 → k < n → get_or b k 0 ≡ get_or (take n b) (get_or (take n a) i 0) 0
combined_read n a b i {k} e m = rw (← e) (sym (get_or-take n b k 0 m))

-- combining, when all is written
pub combined_filled : (n : ℕ) (a b : List ℕ) {e : List ℕ} {i fixed : ℕ} → n ≤ 1024 → IsPermutation n (take n a) → n ≤ i
    → Filling (λ j. j) (λ j. get_or (take n b) (get_or (take n a) j 0) 0) n e i
    → fixed ≡ fixed_points (take n e) → ◌≡◌ {A = Counted} (record { entries = e; fixed = fixed }) (counted_of (combined (take n a) (take n b)))
combined_filled n a b {e} h P l F w =
    let es = combined (take n a) (take n b) in
    let whole : length es ≡ n = combined-length (take n a) (take n b) ∙ P.whole in
    let written : e ≡ padded es =
    filled (λ j. get_or (take n b) (get_or (take n a) j 0) 0) n es h l whole (λ v m. combined-at (take n a) (take n b) v (omega (arith, P.whole))) F in
    let front : take n e ≡ es = ap (take n) written ∙ front_padded n es whole in
    rw (w, front, written)
