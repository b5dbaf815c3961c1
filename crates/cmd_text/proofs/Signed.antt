-- Numbers with a sign: what the code computes with them, and how long they get in decimal.
-- Assumes nothing.
use mathlib.Core.Path.{◌≡◌, refl}
use mathlib.Core.Bool.{true, false}
use mathlib.Core.List.{◌++◌}
use Prim.Native.Nat.{ℕ, suc, ◌+◌, ◌^◌, ◌≤◌, ◌<◌}
use native.Mathlib.Omega.{arith}
use lib.Dec.{T}
use lib.IntN.{ℤ, pos, negsuc, nat_abs}
use lib.ListN.{length}
use lib.Signed.{mag, lt_z, non_neg}
use borrow.Author.Tests.{ltb-true}
use mir.Syntax.{w64}
use mir.Val.{SFits, of_z, to_z}
use mir.Facts.{to_z-of_z}
use Rattle.cmd_text.specs.Text.{text, decimal, signed}
use Rattle.cmd_text.proofs.Decimal.{digits_few}

-- a number as it is read back from its bits
abbrev back : ℤ → ℤ
back z = to_z w64 (of_z w64 z)

module _ {z : ℤ} (F : SFits w64 z) (t : lt_z (back z) (pos 0) ≡ true) where
  below : z ≡ negsuc (mag z)
  below = go z (rw (to_z-of_z F) at t)
    where
      go : (y : ℤ) → lt_z y (pos 0) ≡ true → y ≡ negsuc (mag y)
      go (pos n) l = absurd (omega (arith, ltb-true n 0 l))
      go (negsuc n) l = refl

  pub signed_below : {m : ℕ} → m ≡ nat_abs (back z) → signed z ≡ text "-" ++ decimal m
  unfolding signed
  signed_below e = rw (e, to_z-of_z F, below)

module _ {z : ℤ} (F : SFits w64 z) (t : lt_z (back z) (pos 0) ≡ false) where
  above : z ≡ pos (mag z)
  above = go z (rw (to_z-of_z F) at t)
    where
      go : (y : ℤ) → lt_z y (pos 0) ≡ false → y ≡ pos (mag y)
      go (pos n) l = refl
      go (negsuc n) l = absurd (let z : ◌≡◌ {A = ℕ} 0 1 = cc in omega arith)

  pub signed_above : {m : ℕ} → m ≡ nat_abs (back z) → signed z ≡ decimal m
  unfolding signed
  signed_above e = rw (e, to_z-of_z F, above)

-- ---- how long they get

-- a number below 10 ^ k on either side of 0 has at most k digits and a sign
pub signed_few : (k : ℕ) (z : ℤ) → nat_abs z < 10 ^ suc k → length (signed z) ≤ suc k + 1
unfolding signed
signed_few k (pos n) h = omega (arith, digits_few k n h)
signed_few k (negsuc n) h = omega (arith, digits_few k (suc n) h)

-- .. and no sign where it is not below 0
pub unsigned_few : (k : ℕ) (z : ℤ) → T (non_neg z) → nat_abs z < 10 ^ suc k → length (signed z) ≤ suc k
unfolding signed
unsigned_few k (pos n) t h = digits_few k n h
unsigned_few k (negsuc n) t h = absurd t
