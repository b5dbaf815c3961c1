-- Selecting by arithmetic: the carry of a sum as a test, and masks.
-- Assumes nothing.
use mathlib.Core.Path.{◌≡◌, refl, ◌∙◌}
use mathlib.Core.Bool.{Bool, true, false, not, cond}
use Prim.Native.Nat.{ℕ, zero, suc, ◌+◌, ◌-◌, ◌*◌, ◌/◌, ◌^◌, ◌≤◌, ◌<◌}
use native.Mathlib.Nat.{mod-eq_of_lt}
use native.Mathlib.Omega.{arith}
use native.Mathlib.Decide.{ℕ_discrete, dec_lt}
use mir.Val.{bool_byte}
use lib.Bits.{bit_and, bit_or, and_mask, and_zero_r, or_zero_r, or_zero_l}
use lib.Dec.{ltb, eqb}
use borrow.Author.Tests.{lt-ltb, le-ltb, eq-eqb, ne_eqb}
use Rattle.steps.specs.Steps.{digit}

pub digit_small : (b : Bool) → digit b < 2
digit_small true = omega arith
digit_small false = omega arith

pub digit_byte : (b : Bool) → bool_byte b ≡ digit b
digit_byte true = refl
digit_byte false = refl

-- a bit says what it was made of
pub digit_is : (b : Bool) → eqb (digit b) 1 ≡ b
digit_is true = refl
digit_is false = refl

pub other-digit : (b : Bool) → 1 - digit (not b) ≡ digit b
other-digit true = refl
other-digit false = refl

pub byte_is : (b : Bool) → eqb (bool_byte b) 1 ≡ b
byte_is b = rw (digit_byte b) (digit_is b)

pub carry : (a b : ℕ) → a < 32768 → b < 32768 → (a + 32768 - b) / 32768 ≡ digit (not (ltb a b))
carry a b ha hb = go (dec_lt a b)
  where
    go : Dec (a < b) → (a + 32768 - b) / 32768 ≡ digit (not (ltb a b))
    go (yes l) = rw (lt-ltb a b l) (omega arith)
    go (no l) = rw (le-ltb a b (omega arith)) (omega arith)

-- neither is below the other
pub both : (a b : ℕ) → digit (not (ltb a b)) * digit (not (ltb b a)) ≡ digit (eqb a b)
both a b = go (ℕ_discrete a b) (dec_lt a b)
  where
    go : Dec (a ≡ b) → Dec (a < b) → digit (not (ltb a b)) * digit (not (ltb b a)) ≡ digit (eqb a b)
    go (yes e) l = rw (eq-eqb a b e, le-ltb a b (omega arith), le-ltb b a (omega arith))
    go (no e) (yes l) = rw (ne_eqb a b e, lt-ltb a b l, le-ltb b a (omega arith))
    go (no e) (no l) = rw (ne_eqb a b e, lt-ltb b a (omega arith), le-ltb a b (omega arith))

pub product_small : (a b : Bool) → digit a * digit b < 2
product_small true b = omega (arith, digit_small b)
product_small false b = omega arith

-- ---- masks of k bits

module _ (k M : ℕ) (all : M ≡ 2 ^ k - 1) where
  -- a number under a mask of all ones or all zeros
  pub masked : (s a : ℕ) → s < 2 → a < 2 ^ k → bit_and a (s * M) ≡ cond (eqb s 1) a 0
  masked zero a h l = let u : 0 * M ≡ 0 = omega arith in rw u (and_zero_r a)
  masked (suc zero) a h l = let u : 1 * M ≡ M = omega arith in rw (u, all) (and_mask a k ∙ mod-eq_of_lt l)
  masked (suc (suc s)) a h l = absurd (omega arith)

  pub blend : (s a b : ℕ) → s < 2 → a < 2 ^ k → b < 2 ^ k
      → bit_or (bit_and a (s * M)) (bit_and b (M - s * M)) ≡ cond (eqb s 1) a b
  blend zero a b h l r =
      let u : M - 0 * M ≡ 1 * M = omega arith in
      rw (u, masked 0 a (omega arith) l, masked 1 b (omega arith) r) (or_zero_l b)
  blend (suc zero) a b h l r =
      let u : M - 1 * M ≡ 0 * M = omega arith in
      rw (u, masked 1 a (omega arith) l, masked 0 b (omega arith) r) (or_zero_r a)
  blend (suc (suc s)) a b h l r = absurd (omega arith)

pub mask_fits : (s M : ℕ) → s < 2 → s * M ≤ M
mask_fits zero M h = omega arith
mask_fits (suc zero) M h = omega arith
mask_fits (suc (suc s)) M h = absurd (omega arith)
