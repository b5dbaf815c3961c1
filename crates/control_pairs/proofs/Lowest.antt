-- The lowest unmarked pair as the least of the numbers swept: one pair more at a time, and the pairs past k, which are higher.
-- Assumes nothing.
use mathlib.Core.Path.{◌≡◌, refl, sym, ◌∙◌}
use mathlib.Core.Bool.{Bool, true, false, cond}
use mathlib.Core.List.{List}
use Prim.Native.Nat.{ℕ, zero, suc, ◌+◌, ◌-◌, ◌%◌, ◌≤◌, ◌<◌}
use native.Mathlib.Omega.{arith}
use native.Mathlib.Decide.{ℕ_discrete, dec_lt}
use lib.Dec.{ltb, eqb}
use lib.ListN.{get_or}
use borrow.Author.Tests.{lt-ltb, le-ltb, eq-eqb, ne_eqb}
use Rattle.answers.specs.Questions.{first_bad}
use Rattle.answers.proofs.Questions.{bad_within, bad_counts, bad_stops, bad_stays}
use Rattle.permutation.proofs.Sweeps.{same_bad}
use Rattle.control_rows.specs.Rows.{sixteens}
use Rattle.control_pairs.specs.Pairs.{mark_in}

-- the first bad index below i, or k where there is none
abbrev pub low_of : (ℕ → Bool) → ℕ → ℕ → ℕ
low_of good k i = cond (eqb (first_bad good i) i) k (first_bad good i)

least_first : (a b : ℕ) → a ≤ b → cond (ltb a b) a b ≡ a
least_first a b q = elim (dec_lt a b) [ yes x ↦ rw (lt-ltb a b x) | no x ↦ rw (le-ltb a b (omega arith)) (omega arith) ]

-- one index more, whose number y is its own where it is bad, and k or more where it is good
pub low_step : (good : ℕ → Bool) (k i y : ℕ) → low_of good k i ≤ k → (good i ≡ true → k ≤ y) → (good i ≡ false → (y ≡ i) × (i < k))
    → cond (ltb (low_of good k i) y) (low_of good k i) y ≡ low_of good k (i + 1)
low_step good k i y w yes-y no-y = go (ℕ_discrete (first_bad good i) i) (good i) refl
  where
    go : Dec (first_bad good i ≡ i) → (b : Bool) → good i ≡ b → cond (ltb (low_of good k i) y) (low_of good k i) y ≡ low_of good k (i + 1)
    go (yes f) true t =
        rw (eq-eqb (first_bad good i) i f, eq-eqb (first_bad good (i + 1)) (i + 1) (bad_counts good i f t)) (least_first k y (yes-y t))
    go (yes f) false t =
        let n = no-y t in
        let v : y ≡ i = n.0 in
        let l : i < k = n.1 in
        let s = bad_stops good i f t in
        rw (eq-eqb (first_bad good i) i f, ne_eqb (first_bad good (i + 1)) (i + 1) (λ q. omega (arith, s)), v, le-ltb k i (omega arith)) (sym s)
    go (no f) true t =
        let s = bad_stays good i (omega (arith, bad_within good i)) in
        let u : first_bad good i ≤ k = rw (ne_eqb (first_bad good i) i f) at w in
        let l : k ≤ y = yes-y t in
        rw (ne_eqb (first_bad good i) i f, ne_eqb (first_bad good (i + 1)) (i + 1) (λ q. omega (arith, s, bad_within good i)), s)
        (least_first (first_bad good i) y (omega arith))
    go (no f) false t =
        let s = bad_stays good i (omega (arith, bad_within good i)) in
        let n = no-y t in
        let v : y ≡ i = n.0 in
        rw (ne_eqb (first_bad good i) i f, ne_eqb (first_bad good (i + 1)) (i + 1) (λ q. omega (arith, s, bad_within good i)), s)
        (least_first (first_bad good i) y (omega (arith, bad_within good i)))

-- a least is no more than either
pub least_within : (a b k : ℕ) → a ≤ k → cond (ltb a b) a b ≤ k
least_within a b k h = elim (dec_lt a b) [ yes x ↦ rw (lt-ltb a b x) h | no x ↦ rw (le-ltb a b (omega arith)) (omega arith) ]

low_all : (good : ℕ → Bool) (k : ℕ) → low_of good k k ≡ first_bad good k
low_all good k = elim (ℕ_discrete (first_bad good k) k) [
  | yes e ↦ rw (eq-eqb (first_bad good k) k e) (sym e)
  | no e ↦ rw (ne_eqb (first_bad good k) k e)
]

-- good indices past k change nothing
low-past : (good : ℕ → Bool) (k n : ℕ) → ((j : ℕ) → k ≤ j → good j ≡ true) → low_of good k (k + n) ≡ low_of good k k
low-past good k zero h = let e : k + 0 ≡ k = omega arith in rw e
low-past good k (suc n) h = one ∙ low-past good k n h
  where
    at : k + suc n ≡ k + n + 1
    at = omega arith

    go : Dec (first_bad good (k + n) ≡ k + n) → low_of good k (k + n + 1) ≡ low_of good k (k + n)
    go (yes e) =
        let s = bad_counts good (k + n) e (h (k + n) (omega arith)) in
        rw (eq-eqb (first_bad good (k + n)) (k + n) e, eq-eqb (first_bad good (k + n + 1)) (k + n + 1) s)
    go (no e) =
        let s = bad_stays good (k + n) (omega (arith, bad_within good (k + n))) in
        rw (ne_eqb (first_bad good (k + n)) (k + n) e, ne_eqb (first_bad good (k + n + 1)) (k + n + 1) (λ q. omega (arith, s, bad_within good (k + n))), s)

    one : low_of good k (k + suc n) ≡ low_of good k (k + n)
    one = rw at (go (ℕ_discrete (first_bad good (k + n)) (k + n)))

-- ---- of the table of pairs

-- a pair past k counts as marked
abbrev pub good_in : ℕ → List ℕ → ℕ → Bool
good_in k pairs j = cond (ltb j k) (mark_in pairs j) true

pub low-marked : (k : ℕ) (pairs : List ℕ) (i y : ℕ) → y ≡ get_or pairs i 0 → y % 1024 ≡ i → k ≤ 1024 → good_in k pairs i ≡ true → k ≤ y
low-marked k pairs i y e o l = go (dec_lt i k) (dec_lt (get_or pairs i 0) 1024)
  where
    go : Dec (i < k) → Dec (get_or pairs i 0 < 1024) → good_in k pairs i ≡ true → k ≤ y
    go (yes h) (yes x) t =
        absurd (let z : false ≡ true = sym (rw (lt-ltb i k h, lt-ltb (get_or pairs i 0) 1024 x)) ∙ t in let u : ◌≡◌ {A = ℕ} 0 1 = cc in omega arith)
    go (yes h) (no x) t = omega arith
    go (no h) x t = omega arith

pub low_open : (k : ℕ) (pairs : List ℕ) (i y : ℕ) → y ≡ get_or pairs i 0 → y % 1024 ≡ i → good_in k pairs i ≡ false → (y ≡ i) × (i < k)
low_open k pairs i y e o = go (dec_lt i k) (dec_lt (get_or pairs i 0) 1024)
  where
    clash : true ≡ false → ⊥
    clash z = let u : ◌≡◌ {A = ℕ} 0 1 = cc in omega arith

    go : Dec (i < k) → Dec (get_or pairs i 0 < 1024) → good_in k pairs i ≡ false → (y ≡ i) × (i < k)
    go (yes h) (yes x) t = (omega arith, h)
    go (yes h) (no x) t = absurd (clash (sym (rw (lt-ltb i k h, le-ltb (get_or pairs i 0) 1024 (omega arith))) ∙ t))
    go (no h) x t = absurd (clash (sym (rw (le-ltb i k (omega arith))) ∙ t))

-- after whole sixteens it is the lowest unmarked pair of k
pub low_whole : (k : ℕ) (pairs : List ℕ) → low_of (good_in k pairs) k (sixteens k) ≡ first_bad (mark_in pairs) k
low_whole k pairs =
    let n : k + (sixteens k - k) ≡ sixteens k = omega arith in
    sym (rw n)
    ∙ low-past (good_in k pairs) k (sixteens k - k) (λ j h. rw (le-ltb j k h))
    ∙ low_all (good_in k pairs) k
    ∙ same_bad (good_in k pairs) (mark_in pairs) k (λ i l. rw (lt-ltb i k l))
