-- All orders of n places in dictionary order, counted from 0 (02, F-3).
-- Assumes nothing: these are definitions.
use Rattle.std.specs.Prelude.{◌≡◌, true, false, ◌⊎◌, List, [], ◌∷◌, map, ℕ, zero, suc, ◌*◌, ◌/◌, ◌%◌, ◌<◌, ltb}

-- how many orders n places have: 1, 1, 2, 6, 24, 120, 720
unfoldable pub factorial : ℕ → ℕ
factorial zero = 1
factorial (suc n) = suc n * factorial n

-- the places but d, counted from 0: the one of number x
abbrev pub past : ℕ → ℕ → ℕ
past d x = elim (ltb x d) [ true ↦ x | false ↦ suc x ]

-- the r-th order (unranking): as many orders as the other places have begin with 0, as many with 1, and so on; among those that begin
-- with d, the other places stand as in the order of their own number
unfoldable pub order_at : ℕ → ℕ → List ℕ
order_at zero r = []
order_at (suc n) r = (r / factorial n) ∷ map (past (r / factorial n)) (order_at n (r % factorial n))

-- dictionary order, of lists of one length: the first difference is smaller
unfoldable pub Before : List ℕ → List ℕ → Type 0
Before [] ys = ⊥
Before (x ∷ xs) [] = ⊥
Before (x ∷ xs) (y ∷ ys) = (x < y) ⊎ ((x ≡ y) × Before xs ys)

-- an order stands among the orders of n places exactly once
pub record ListedOnce (n : ℕ) (order : List ℕ) : Type 0 where
  pub rank : ℕ
  pub rank_below : rank < factorial n
  pub listed : order_at n rank ≡ order
  pub only : (r : ℕ) → r < factorial n → order_at n r ≡ order → r ≡ rank
