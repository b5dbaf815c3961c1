-- How large the counts get.
-- Assumes nothing.
use mathlib.Core.Path.{◌≡◌, refl}
use Prim.Native.Nat.{ℕ, zero, suc, ◌+◌, ◌-◌, ◌*◌, ◌%◌, ◌^◌, ◌≤◌, ◌<◌}
use native.Mathlib.Nat.{not-suc-le-zero, mul-le-mul}
use native.Mathlib.Omega.{arith}
use native.Mathlib.Decide.{dec_lt}
use lib.Pow.{pow_pos, shl_exact}
use Rattle.counts.specs.Counts.{W, E, L, up, by_halves, switch_rule, entry_rule}
use Rattle.counts.proofs.Rule.{none, halved, entry-sum, W_none, W_more, E_none, E_two, E_more}
use Rattle.counts.proofs.DigitCount.{L_leading}
use Rattle.counts.proofs.Formula.{W-sum}

-- a number below 2 ^ k has at most k digits
L-le : (k x : ℕ) → x < 2 ^ k → L x ≤ k
L-le k x h = omega (arith, L_leading k x h)

-- The formula for a 32-bit n in the steps of a 64-bit machine: none of them leaves its range.
pub record In64 (n l : ℕ) : Type 0 where
  pub digits : l ≤ 32
  pub product : n * l ≤ 2 ^ 37
  pub room : (1 * 2 ^ l) % 2 ^ 64 ≤ n * l + 1
  pub count : n * l + 1 - (1 * 2 ^ l) % 2 ^ 64 ≡ W n

pub W_in_64 : (n l : ℕ) → l ≡ L (n - 1) → 1 ≤ n → n < 2 ^ 32 → In64 n l
W_in_64 n l e g h =
    let digits : l ≤ 32 = rw e (L-le 32 (n - 1) (omega arith)) in
    let below : n ≤ 2 ^ 32 = omega arith in
    let product : n * l ≤ 2 ^ 32 * 32 = mul-le-mul {n₁ = n} {m₁ = l} {n₂ = 2 ^ 32} {m₂ = 32} below digits in
    let formula : W n + 2 ^ l ≡ n * l + 1 = rw e (W-sum n g) in
    let power : (1 * 2 ^ l) % 2 ^ 64 ≡ 1 * 2 ^ l = shl_exact 1 l 64 (omega arith) (omega arith) in
    record {
      digits = digits;
      product = omega arith;
      room = omega arith;
      count = omega arith;
    }

-- the counts of a 32-bit number of places
pub W_small : (n : ℕ) → n < 2 ^ 32 → W n ≤ 2 ^ 37
W_small n h = go (dec_lt n 1)
  where
    go : Dec (n < 1) → W n ≤ 2 ^ 37
    go (yes l) = omega (arith, W_none n (omega arith))
    go (no l) = omega (arith, W-sum n (omega arith), pow_pos (L (n - 1)), W_in_64 n (L (n - 1)) refl (omega arith) h)

-- a rule of which more places and larger counts of the halves make no smaller count
abbrev Growing : (ℕ → ℕ → ℕ → ℕ) → Type 0
Growing rule = (n m t u b c : ℕ) → 2 ≤ n → n ≤ m → t ≤ u → b ≤ c → rule n t b ≤ rule m u c

-- then more places have no smaller count, by strong induction: both halves have no fewer places
module _ (rule : ℕ → ℕ → ℕ → ℕ) (grows : Growing rule) where
  rising : (d n m : ℕ) → m < d → n ≤ m → by_halves rule n n ≤ by_halves rule m m
  rising zero n m h g = absurd (not-suc-le-zero h)
  rising (suc d) n m h g = go (dec_lt n 2) (rising d (up n) (up m)) (rising d (n - up n) (m - up m))
    where
      go :
          Dec (n < 2)
          → (up m < d → up n ≤ up m → by_halves rule (up n) (up n) ≤ by_halves rule (up m) (up m))
          → (m - up m < d → n - up n ≤ m - up m → by_halves rule (n - up n) (n - up n) ≤ by_halves rule (m - up m) (m - up m))
          → by_halves rule n n ≤ by_halves rule m m
      go (yes l) top bottom = omega (arith, none rule n n l)
      go (no l) top bottom =
          rw (halved rule n (omega arith), halved rule m (omega arith))
          (grows n m _ _ _ _ (omega arith) g (top (omega arith) (omega arith)) (bottom (omega arith) (omega arith)))

-- more places, no fewer switches
pub W_rises : (n m : ℕ) → n ≤ m → W n ≤ W m
unfolding W
W_rises n m h = rising switch_rule (λ n m t u b c some more top bottom. omega arith) (suc m) n m (omega arith) h

-- two places have fewer entries than more, and from three places on the rule is a sum
entries_grow : Growing entry_rule
entries_grow n m t u b c some more top bottom = go (dec_lt n 3) (dec_lt m 3)
  where
    go : Dec (n < 3) → Dec (m < 3) → entry_rule n t b ≤ entry_rule m u c
    go (yes l) (yes k) =
        let first : n ≡ 2 = omega arith in
        let second : m ≡ 2 = omega arith in
        rw (first, second) (omega arith)
    go (yes l) (no k) =
        let first : n ≡ 2 = omega arith in
        rw (first, entry-sum m u c (omega arith)) (omega arith)
    go (no l) k = rw (entry-sum n t b (omega arith), entry-sum m u c (omega arith)) (omega arith)

-- more places, no fewer entries
pub E_rises : (n m : ℕ) → n ≤ m → E n ≤ E m
unfolding E
E_rises n m h = rising entry_rule entries_grow (suc m) n m (omega arith) h

-- a network has at most five entries for each switch
E-below : (d n : ℕ) → n < d → E n ≤ 5 * W n
E-below zero n h = absurd (not-suc-le-zero h)
E-below (suc d) n h = go (dec_lt n 2) (dec_lt n 3) (E-below d (up n)) (E-below d (n - up n))
  where
    go :
        Dec (n < 2) → Dec (n < 3)
        → (up n < d → E (up n) ≤ 5 * W (up n)) → (n - up n < d → E (n - up n) ≤ 5 * W (n - up n))
        → E n ≤ 5 * W n
    go (yes l) m top bottom = omega (arith, E_none n l)
    go (no l) (yes m) top bottom = let e : n ≡ 2 = omega arith in rw e (omega (arith, E_two, W_more 2 (omega arith)))
    go (no l) (no m) top bottom =
        omega (arith, E_more n (omega arith), W_more n (omega arith), top (omega arith), bottom (omega arith))

pub E-le-W : (n : ℕ) → E n ≤ 5 * W n
E-le-W n = E-below (suc n) n (omega arith)

pub E_small : (n : ℕ) → n < 2 ^ 32 → E n ≤ 2 ^ 40
E_small n h = omega (arith, W_small n h, E-le-W n)
