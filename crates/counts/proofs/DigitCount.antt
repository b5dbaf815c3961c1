-- The count L of binary digits: it and the leading zeros make a number's width, and 2 ^ L is the next power of two above it.
-- Assumes nothing.
use mathlib.Core.Path.{◌≡◌, ◌∙◌}
use Prim.Native.Nat.{ℕ, zero, suc, ◌+◌, ◌*◌, ◌/◌, ◌^◌, ◌≤◌, ◌<◌}
use native.Mathlib.Nat.{add-zero, not-suc-le-zero, pow-suc}
use native.Mathlib.Omega.{arith}
use lib.Pow.{pow_pos}
use lib.Count.{count_leading_zeros, leading_of_zero, leading_length}
use Rattle.counts.specs.Counts.{L, digits_in}

leading_digits : (d k x : ℕ) → x ≤ d → x < 2 ^ k → count_leading_zeros k x + digits_in d x ≡ k
unfolding count_leading_zeros digits_in
leading_digits zero k zero h g = add-zero (count_leading_zeros k 0) ∙ leading_of_zero k
leading_digits zero k (suc x) h g = absurd (not-suc-le-zero h)
leading_digits (suc d) k zero h g = add-zero (count_leading_zeros k 0) ∙ leading_of_zero k
leading_digits (suc d) zero (suc x) h g = absurd (omega arith)
leading_digits (suc d) (suc k) (suc x) h g =
    omega (arith, leading_digits d k (suc x / 2) (omega arith) (omega (arith, pow-suc 2 k)))

-- the leading zeros of x among k digits, and its own digits, make k
pub L_leading : (k x : ℕ) → x < 2 ^ k → count_leading_zeros k x + L x ≡ k
unfolding L
L_leading k x h = leading_digits x k x (omega arith) h

below-pow : (x : ℕ) → x < 2 ^ x
below-pow zero = pow_pos 0
below-pow (suc x) = omega (arith, below-pow x, pow-suc 2 x)

-- 2 ^ L x lies above x, and is at most 2 x + 1
pub record Length (x l : ℕ) : Type 0 where
  pub above : x < 2 ^ l
  pub near : 2 ^ l ≤ 2 * x + 1

pub L-length : (x : ℕ) → Length x (L x)
L-length x =
    let s = leading_length x x (below-pow x) in
    let e : s.0 ≡ L x = omega (arith, s.1, L_leading x x (below-pow x)) in
    rw (← e) (record { above = s.2; near = s.3 })
