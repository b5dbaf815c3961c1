-- The places but d: past d lists them in rising order, and number d is the way back.
-- Assumes nothing.
use mathlib.Core.Path.{◌≡◌, sym, ap, ◌∙◌}
use mathlib.Core.Bool.{true, false}
use mathlib.Core.Logic.{◌≢◌, ◌⊎◌, inl, inr}
use Prim.Native.Nat.{ℕ, suc, ◌-◌, ◌≤◌, ◌<◌}
use native.Mathlib.Omega.{arith}
use native.Mathlib.Decide.{dec_lt}
use lib.Dec.{ltb}
use borrow.Author.Tests.{lt-ltb, le-ltb}
use Rattle.orders_listed.specs.Ranks.{past}

-- the other way: the number that a place has among the places but d
abbrev pub number : ℕ → ℕ → ℕ
number d y = elim (ltb d y) [ true ↦ y - 1 | false ↦ y ]

module _ (d : ℕ) where
  past_is : (x : ℕ) → ((x < d) × (past d x ≡ x)) ⊎ ((d ≤ x) × (past d x ≡ suc x))
  past_is x = on (dec_lt x d)
    where
      on : Dec (x < d) → ((x < d) × (past d x ≡ x)) ⊎ ((d ≤ x) × (past d x ≡ suc x))
      on (yes l) = inl (l, rw (lt-ltb x d l, past))
      on (no l) = let g : d ≤ x = omega arith in inr (g, rw (le-ltb x d g, past))

  pub past-below : (n x : ℕ) → x < n → past d x < suc n
  past-below n x l = elim (past_is x) [ inl p ↦ omega arith | inr p ↦ omega arith ]

  pub past_misses : (x : ℕ) → past d x ≢ d
  past_misses x e = elim (past_is x) [ inl p ↦ omega arith | inr p ↦ omega arith ]

  pub past_rises : (x y : ℕ) → x < y → past d x < past d y
  past_rises x y l =
      elim (past_is x) [
        | inl p ↦ elim (past_is y) [ inl q ↦ omega arith | inr q ↦ omega arith ]
        | inr p ↦ elim (past_is y) [ inl q ↦ omega arith | inr q ↦ omega arith ]
      ]

  pub past_unlike : (x y : ℕ) → past d x ≡ past d y → x ≡ y
  past_unlike x y e = on (dec_lt x y) (dec_lt y x)
    where
      on : Dec (x < y) → Dec (y < x) → x ≡ y
      on (yes l) m = absurd (omega (arith, past_rises x y l))
      on (no l) (yes m) = absurd (omega (arith, past_rises y x m))
      on (no l) (no m) = omega arith

  number_is : (y : ℕ) → y ≢ d → ((d < y) × (number d y ≡ y - 1)) ⊎ ((y < d) × (number d y ≡ y))
  number_is y o = on (dec_lt d y)
    where
      on : Dec (d < y) → ((d < y) × (number d y ≡ y - 1)) ⊎ ((y < d) × (number d y ≡ y))
      on (yes l) = inl (l, rw (lt-ltb d y l, number))
      on (no l) = let g : y < d = omega arith in inr (g, rw (le-ltb d y (omega arith), number))

  pub number-below : (n y : ℕ) → y ≢ d → d < suc n → y < suc n → number d y < n
  number-below n y o k l = elim (number_is y o) [ inl p ↦ omega arith | inr p ↦ omega arith ]

  pub past-number : (y : ℕ) → y ≢ d → past d (number d y) ≡ y
  past-number y o =
      elim (number_is y o) [
        | inl p ↦ elim (past_is (number d y)) [ inl q ↦ omega arith | inr q ↦ omega arith ]
        | inr p ↦ elim (past_is (number d y)) [ inl q ↦ omega arith | inr q ↦ omega arith ]
      ]

  pub number_unlike : (x y : ℕ) → x ≢ d → y ≢ d → number d x ≡ number d y → x ≡ y
  number_unlike x y o p e = sym (past-number x o) ∙ ap (past d) e ∙ past-number y p
