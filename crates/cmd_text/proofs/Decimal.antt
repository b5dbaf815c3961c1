-- Numbers in decimal: the rule without the bound on the digits, and how many there are.
-- Assumes nothing.
use mathlib.Core.Path.{◌≡◌, sym, ap, ◌∙◌}
use mathlib.Core.List.{[], ◌∷◌, ◌++◌}
use Prim.Native.Nat.{ℕ, zero, suc, ◌+◌, ◌*◌, ◌/◌, ◌%◌, ◌^◌, ◌≤◌, ◌<◌}
use native.Mathlib.Nat.{pow-suc}
use native.Mathlib.Omega.{arith}
use native.Mathlib.Decide.{dec_lt}
use lib.ListN.{length, length-append}
use borrow.Author.Tests.{lt-ltb, le-ltb}
use Rattle.cmd_text.specs.Text.{digits, decimal}

digits-one : (d v : ℕ) → v < 10 → digits (suc d) v ≡ (48 + v) ∷ []
unfolding digits
digits-one d v h = rw (digits, lt-ltb v 10 h)

digits_more : (d v : ℕ) → 10 ≤ v → digits (suc d) v ≡ digits d (v / 10) ++ ((48 + v % 10) ∷ [])
unfolding digits
digits_more d v h = rw (digits, le-ltb v 10 h)

-- a bound above v is never reached
digits_enough : (d e v : ℕ) → v < d → v < e → digits d v ≡ digits e v
digits_enough zero e v h g = absurd (omega arith)
digits_enough (suc d) zero v h g = absurd (omega arith)
digits_enough (suc d) (suc e) v h g = go (dec_lt v 10) (digits_enough d e (v / 10))
  where
    go : Dec (v < 10) → (v / 10 < d → v / 10 < e → digits d (v / 10) ≡ digits e (v / 10)) → digits (suc d) v ≡ digits (suc e) v
    go (yes l) r = digits-one d v l ∙ sym (digits-one e v l)
    go (no l) r =
        digits_more d v (omega arith)
        ∙ ap (λ ds. ds ++ ((48 + v % 10) ∷ [])) (r (omega arith) (omega arith))
        ∙ sym (digits_more e v (omega arith))

pub decimal-one : (v : ℕ) → v < 10 → decimal v ≡ (48 + v) ∷ []
unfolding decimal
decimal-one v h = digits-one v v h

pub decimal_more : (v : ℕ) → 10 ≤ v → decimal v ≡ decimal (v / 10) ++ ((48 + v % 10) ∷ [])
unfolding decimal
decimal_more v h =
    digits_more v v h
    ∙ ap (λ ds. ds ++ ((48 + v % 10) ∷ [])) (digits_enough v (suc (v / 10)) (v / 10) (omega arith) (omega arith))

pub longer : (v : ℕ) → 10 ≤ v → length (decimal v) ≡ length (decimal (v / 10)) + 1
longer v h = ap length (decimal_more v h) ∙ length-append (decimal (v / 10)) ((48 + v % 10) ∷ [])

-- a number below 10 ^ k has at most k digits
pub digits_few : (k v : ℕ) → v < 10 ^ suc k → length (decimal v) ≤ suc k
digits_few zero v h = omega (arith, ap length (decimal-one v h))
digits_few (suc k) v h = go (dec_lt v 10) (digits_few k (v / 10))
  where
    go : Dec (v < 10) → (v / 10 < 10 ^ suc k → length (decimal (v / 10)) ≤ suc k) → length (decimal v) ≤ suc (suc k)
    go (yes l) r = omega (arith, ap length (decimal-one v l))
    go (no l) r =
        let z : v < 10 ^ suc k * 10 = rw (pow-suc 10 (suc k)) at h in
        omega (arith, longer v (omega arith), r (omega arith))
