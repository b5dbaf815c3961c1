-- The orders stand in dictionary order, and so no two of them are alike.
-- Assumes nothing.
use mathlib.Core.Path.{◌≡◌, sym, ap, subst}
use mathlib.Core.Logic.{inl, inr}
use mathlib.Core.List.{List, [], ◌∷◌, map}
use Prim.Native.Nat.{ℕ, zero, suc, ◌*◌, ◌/◌, ◌%◌, ◌<◌}
use native.Mathlib.Nat.{div-add-mod', mul-le-mul_right}
use native.Mathlib.Omega.{arith}
use native.Mathlib.Decide.{dec_lt}
use Rattle.orders_listed.specs.Ranks.{factorial, past, order_at, Before}
use Rattle.orders_listed.proofs.Past.{past_rises}
use Rattle.orders_listed.proofs.OrderAt.{rest_below}

-- ---- `Before` is an order

pub before_unlike : (xs ys : List ℕ) → Before xs ys → xs ≡ ys → ⊥
unfolding Before
before_unlike [] ys b e = b
before_unlike (x ∷ xs) [] b e = b
before_unlike (x ∷ xs) (y ∷ ys) (inl l) e = let q : x ≡ y = cc in omega arith
before_unlike (x ∷ xs) (y ∷ ys) (inr b) e = before_unlike xs ys b.1 (cc)

pub before_then : (xs ys zs : List ℕ) → Before xs ys → Before ys zs → Before xs zs
unfolding Before
before_then [] ys zs b c = b
before_then (x ∷ xs) [] zs b c = absurd b
before_then (x ∷ xs) (y ∷ ys) [] b c = c
before_then (x ∷ xs) (y ∷ ys) (z ∷ zs) (inl b) (inl c) = inl (omega arith)
before_then (x ∷ xs) (y ∷ ys) (z ∷ zs) (inl b) (inr c) = inl (omega arith)
before_then (x ∷ xs) (y ∷ ys) (z ∷ zs) (inr b) (inl c) = inl (omega arith)
before_then (x ∷ xs) (y ∷ ys) (z ∷ zs) (inr b) (inr c) = inr (omega arith, before_then xs ys zs b.1 c.1)

-- ---- the orders rise

before-map : (f : ℕ → ℕ) → ((x y : ℕ) → x < y → f x < f y) → (xs ys : List ℕ) → Before xs ys → Before (map f xs) (map f ys)
unfolding Before
before-map f rises [] ys b = b
before-map f rises (x ∷ xs) [] b = b
before-map f rises (x ∷ xs) (y ∷ ys) (inl l) = inl (rises x y l)
before-map f rises (x ∷ xs) (y ∷ ys) (inr b) = inr (ap f b.0, before-map f rises xs ys b.1)

pub rising : (n r s : ℕ) → r < s → s < factorial n → Before (order_at n r) (order_at n s)
unfolding order_at factorial Before
rising zero r s l h = absurd (omega arith)
rising (suc n) r s l h = on (dec_lt (r / f) (s / f)) (dec_lt (s / f) (r / f)) (rising n (r % f) (s % f))
  where
    f : ℕ
    f = factorial n

    on : Dec (r / f < s / f) → Dec (s / f < r / f) → (r % f < s % f → s % f < f → Before (order_at n (r % f)) (order_at n (s % f)))
        → Before (order_at (suc n) r) (order_at (suc n) s)
    on (yes a) d rest = inl a
    on (no a) (yes d) rest = absurd (omega (arith, mul-le-mul_right f d, div-add-mod' r f, div-add-mod' s f, rest_below n s))
    on (no a) (no d) rest =
        let e : r / f ≡ s / f = omega arith in
        let b : Before (order_at n (r % f)) (order_at n (s % f)) =
        rest (omega (arith, ap (λ q. q * f) e, div-add-mod' r f, div-add-mod' s f)) (rest_below n s) in
        inr (
          e,
          subst (λ q. Before (map (past q) (order_at n (r % f))) (map (past (s / f)) (order_at n (s % f)))) (sym e)
              (before-map (past (s / f)) (past_rises (s / f)) (order_at n (r % f)) (order_at n (s % f)) b),
        )

-- two ranks of one order are the same
pub same_rank : (n r s : ℕ) → r < factorial n → s < factorial n → order_at n r ≡ order_at n s → r ≡ s
same_rank n r s k l e = on (dec_lt r s) (dec_lt s r)
  where
    on : Dec (r < s) → Dec (s < r) → r ≡ s
    on (yes a) d = absurd (before_unlike _ _ (rising n r s a l) e)
    on (no a) (yes d) = absurd (before_unlike _ _ (rising n s r d k) (sym e))
    on (no a) (no d) = omega arith
