-- The closed formula of W, for every number of places.
-- Assumes nothing.
use mathlib.Core.Path.{◌≡◌, ap, ◌∙◌}
use Prim.Native.Nat.{ℕ, zero, suc, ◌+◌, ◌-◌, ◌*◌, ◌^◌, ◌≤◌, ◌<◌}
use native.Mathlib.Nat.{add-mul, mul-suc, pow-suc}
use native.Mathlib.Omega.{arith}
use native.Mathlib.Decide.{dec_lt}
use lib.Pow.{pow_pos}
use Rattle.counts.specs.Counts.{W, L, up}
use Rattle.counts.proofs.Rule.{W_none, W_more}
use Rattle.counts.proofs.DigitCount.{L-length}

-- Where 2 ^ l lies from n to 2 n: then 2 ^ (l - 1) lies so for both halves of n. A power of two has two such l, and the
-- formula holds at both, so it matters not that the halves may differ in L.
pub W_between : (l n : ℕ) → n ≤ 2 ^ l → 2 ^ l ≤ 2 * n → W n + 2 ^ l ≡ n * l + 1
W_between zero n h g = omega (arith, W_none n (omega arith))
W_between (suc zero) n h g = go (dec_lt n 2)
  where
    go : Dec (n < 2) → W n + 2 ^ 1 ≡ n * 1 + 1
    go (yes l) = omega (arith, W_none n l)
    go (no l) = omega (arith, W_more n (omega arith), W_none (up n) (omega arith), W_none (n - up n) (omega arith))
W_between (suc (suc i)) n h g =
    let j = suc i in
    let two = pow-suc 2 i in
    let four = pow-suc 2 j in
    let some = pow_pos i in
    let top = W_between (suc i) (up n) (omega arith) (omega arith) in
    let half : 2 ^ i ≤ n - up n = omega arith in
    let bottom = W_between (suc i) (n - up n) (omega arith) (omega arith) in
    let both : n * j ≡ up n * j + (n - up n) * j =
    ap (λ (m : ℕ). m * j) (omega arith) ∙ add-mul (up n) (n - up n) j in
    omega (arith, W_more n (omega arith), mul-suc n j)

-- L is the count of binary digits of n - 1
pub W-sum : (n : ℕ) → 1 ≤ n → W n + 2 ^ L (n - 1) ≡ n * L (n - 1) + 1
W-sum n h =
    let about = L-length (n - 1) in
    W_between (L (n - 1)) n (omega arith) (omega arith)

-- The paper's formula. The 1 is added first: 2 ^ L exceeds n L at n = 1, and these numbers have nothing below 0.
pub W_formula : (n : ℕ) → 1 ≤ n → W n ≡ n * L (n - 1) + 1 - 2 ^ L (n - 1)
W_formula n h = omega (arith, W-sum n h)
