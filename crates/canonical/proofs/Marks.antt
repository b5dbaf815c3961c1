-- Marks on the first pairs: their count, and the lowest pair without one.
-- Assumes nothing.
use mathlib.Core.Path.{◌≡◌, refl, ap, ◌∙◌}
use mathlib.Core.Logic.{◌≢◌, ◌⊎◌, inl, inr}
use mathlib.Core.Bool.{Bool, true, false, cond}
use Prim.Native.Nat.{ℕ, zero, suc, ◌+◌, ◌≤◌, ◌<◌}
use native.Mathlib.Omega.{arith}
use native.Mathlib.Decide.{ℕ_discrete}
use Rattle.canonical.proofs.Sides.{true_or_false}

-- how many of the first n are marked
unfoldable pub count : ℕ → (ℕ → Bool) → ℕ
count zero m = 0
count (suc n) m = count n m + cond (m n) 1 0

count-le : (n : ℕ) (m : ℕ → Bool) → count n m ≤ n
unfolding count
count-le zero m = omega arith
count-le (suc n) m = go (m n) (count-le n m)
  where
    go : (b : Bool) → count n m ≤ n → count n m + cond b 1 0 ≤ suc n
    go true h = omega arith
    go false h = omega arith

pub count_all : (n : ℕ) (m : ℕ → Bool) → ((j : ℕ) → j < n → m j ≡ true) → count n m ≡ n
unfolding count
count_all zero m h = refl
count_all (suc n) m h = rw (h n (omega arith)) (omega (arith, count_all n m (λ j l. h j (omega arith))))

pub count_none : (n : ℕ) (m : ℕ → Bool) → ((j : ℕ) → j < n → m j ≡ false) → count n m ≡ 0
unfolding count
count_none zero m h = refl
count_none (suc n) m h = rw (h n (omega arith), count_none n m (λ j l. h j (omega arith))) refl

pub count_full : (n : ℕ) (m : ℕ → Bool) → count n m ≡ n → (j : ℕ) → j < n → m j ≡ true
unfolding count
count_full zero m e j l = absurd (omega arith)
count_full (suc n) m e j l = go (λ d. count_full n m d j) (m n) refl e
  where
    go : (count n m ≡ n → j < n → m j ≡ true) → (b : Bool) → m n ≡ b → count n m + cond b 1 0 ≡ suc n → m j ≡ true
    go ih false q d = absurd (omega (arith, count-le n m))
    go ih true q d = at (ℕ_discrete j n)
      where
        at : Dec (j ≡ n) → m j ≡ true
        at (yes x) = ap m x ∙ q
        at (no x) = ih (omega arith) (omega arith)

count_same : (n : ℕ) (m m' : ℕ → Bool) → ((j : ℕ) → j < n → m' j ≡ m j) → count n m' ≡ count n m
unfolding count
count_same zero m m' h = refl
count_same (suc n) m m' h = rw (h n (omega arith), count_same n m m' (λ j l. h j (omega arith))) refl

-- one more pair marked
pub count-mark :
    (n : ℕ) (m m' : ℕ → Bool) (i : ℕ)
    → i < n
    → m i ≡ false
    → m' i ≡ true
    → ((j : ℕ) → j < n → j ≢ i → m' j ≡ m j)
    → count n m' ≡ suc (count n m)
unfolding count
count-mark zero m m' i l a b h = absurd (omega arith)
count-mark (suc n) m m' i l a b h = go (λ l'. count-mark n m m' i l' a b (λ j lj. h j (omega arith))) (ℕ_discrete n i)
  where
    go : (i < n → count n m' ≡ suc (count n m)) → Dec (n ≡ i) → count n m' + cond (m' n) 1 0 ≡ suc (count n m + cond (m n) 1 0)
    go ih (yes e) =
        rw (ap m e ∙ a, ap m' e ∙ b) (omega (arith, count_same n m m' (λ j lj. h j (omega arith) (omega arith))))
    go ih (no d) = rw (h n (omega arith) d) (omega (arith, ih (omega arith)))

-- j is the lowest pair without a mark
pub record Lowest (n : ℕ) (m : ℕ → Bool) (j : ℕ) : Type 0 where
  pub below : j < n
  pub unmarked : m j ≡ false
  pub before : (i : ℕ) → i < j → m i ≡ true

-- there is one, or all are marked
pub lowest-or_none : (n : ℕ) (m : ℕ → Bool) → ((j : ℕ) → j < n → m j ≡ true) ⊎ ((j : ℕ) × Lowest n m j)
lowest-or_none zero m = inl (λ j l. absurd (omega arith))
lowest-or_none (suc n) m = go (lowest-or_none n m) (true_or_false (m n))
  where
    go : ((j : ℕ) → j < n → m j ≡ true) ⊎ ((j : ℕ) × Lowest n m j)
        → (m n ≡ true) ⊎ (m n ≡ false)
        → ((j : ℕ) → j < suc n → m j ≡ true) ⊎ ((j : ℕ) × Lowest (suc n) m j)
    go (inr h) d =
        let b = h.1.below in
        inr (h.0, record { below = omega arith; unmarked = h.1.unmarked; before = h.1.before })
    go (inl h) (inr d) = inr (n, record { below = omega arith; unmarked = d; before = h })
    go (inl h) (inl d) = inl at
      where
        at : (j : ℕ) → j < suc n → m j ≡ true
        at j l = elim (ℕ_discrete j n) [ yes e ↦ ap m e ∙ d | no e ↦ h j (omega arith) ]

-- the lowest unmarked of i, i + 1, .., i + n - 1; i + n if there is none
unfoldable pub lowest : ℕ → ℕ → (ℕ → Bool) → ℕ
lowest zero i m = i
lowest (suc n) i m = elim (m i) [ true ↦ lowest n (suc i) m | false ↦ i ]

lowest-marked : (n i : ℕ) (m : ℕ → Bool) → m i ≡ true → lowest (suc n) i m ≡ lowest n (suc i) m
unfolding lowest
lowest-marked n i m e = rw (e, lowest)

lowest-unmarked : (n i : ℕ) (m : ℕ → Bool) → m i ≡ false → lowest (suc n) i m ≡ i
unfolding lowest
lowest-unmarked n i m e = rw (e, lowest)

pub lowest_is : (n i j : ℕ) (m : ℕ → Bool) → i ≤ j → j < i + n → m j ≡ false → ((q : ℕ) → q < j → m q ≡ true) → lowest n i m ≡ j
lowest_is zero i j m a b e h = absurd (omega arith)
lowest_is (suc n) i j m a b e h = go (λ x y. lowest_is n (suc i) j m x y e h) (ℕ_discrete i j)
  where
    go : (suc i ≤ j → j < suc i + n → lowest n (suc i) m ≡ j) → Dec (i ≡ j) → lowest (suc n) i m ≡ j
    go ih (yes q) = lowest-unmarked n i m (ap m q ∙ e) ∙ q
    go ih (no q) = lowest-marked n i m (h i (omega arith)) ∙ ih (omega arith) (omega arith)
