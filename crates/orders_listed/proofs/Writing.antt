-- The recursion of `write_order`: the first entry, and the order of the places that are left.
-- Assumes nothing.
use mathlib.Core.Path.{◌≡◌, refl, sym, ap, ◌∙◌}
use mathlib.Core.List.{List, [], ◌∷◌, ◌++◌, map, append-nil}
use Prim.Native.Nat.{ℕ, zero, suc, ◌-◌, ◌*◌, ◌/◌, ◌%◌, ◌≤◌, ◌<◌}
use native.Mathlib.Nat.{div-add-mod'}
use native.Mathlib.Omega.{arith}
use lib.ListN.{length, take, drop, set, length-map, length-drop, drop_of_length-le}
use lib.Seq.{take_all}
use borrow.Rule.Slice.PartMut.{put_mid}
use Rattle.control_sweeps.specs.Tables.{Below}
use Rattle.orders_listed.specs.Ranks.{factorial, past, order_at}
use Rattle.orders_listed.proofs.OrderAt.{first_below, rest_below, length_order_at, order_below}

-- ---- all of a list but its first item, lent and back

pub lent : (d : ℕ) (ys : List ℕ) → take (length (d ∷ ys) - 1) ys ≡ ys
lent d ys = take_all (length (d ∷ ys) - 1) ys (omega arith)

pub back : (d : ℕ) (ys zs : List ℕ) → length zs ≡ length ys → put_mid 1 (length (d ∷ ys) - 1) (d ∷ ys) zs ≡ d ∷ zs
back d ys zs e =
    let none : drop (length (d ∷ ys) - 1) ys ≡ [] = drop_of_length-le ys {i = length (d ∷ ys) - 1} (omega arith) in
    ap (λ l. d ∷ (zs ++ l)) none ∙ ap (λ l. d ∷ l) (append-nil zs)

-- ---- what the digit says

pub record Begun (xs : List ℕ) (r f d : ℕ) : Type 0 where
  pub some : 0 < length xs
  pub ranked : r < factorial (length xs)
  pub factor : f ≡ factorial (length xs - 1)
  pub first : d ≡ r / f

pub more : (n r : ℕ) → 0 < n → r < factorial n → r < n * factorial (n - 1)
unfolding factorial
more zero r h l = absurd (omega arith)
more (suc n) r h l = let z : suc n - 1 ≡ n = omega arith in rw z l

module _ {xs : List ℕ} {r f d : ℕ} (B : Begun xs r f d) where
  pub starts : set xs 0 d ≡ d ∷ drop 1 xs
  starts = go xs B.some
    where
      go : (xs : List ℕ) → 0 < length xs → set xs 0 d ≡ d ∷ drop 1 xs
      go [] h = absurd (omega arith)
      go (x ∷ xs) h = refl

  pub used : d * f ≤ r
  used = rw B.first (omega (arith, div-add-mod' r f))

  pub left : r - d * f ≡ r % f
  left = rw B.first (omega (arith, div-add-mod' r f))

  pub left_below : r - d * f < factorial (length xs - 1)
  left_below = rw (left, B.factor) (rest_below (length xs - 1) r)

  pub first_small : d < length xs
  first_small = rw (B.first, B.factor) (go (length xs) B.some B.ranked)
    where
      go : (n : ℕ) → 0 < n → r < factorial n → r / factorial (n - 1) < n
      go zero h l = absurd (omega arith)
      go (suc n) h l = let z : suc n - 1 ≡ n = omega arith in rw z (first_below n r l)

  -- the part of the list that is lent for the others
  abbrev pub others : List ℕ
  others = take (length (set xs 0 d) - 1) (drop 1 (set xs 0 d))

  pub length-others : length others ≡ length xs - 1
  length-others = rw starts (ap length (lent d (drop 1 xs)) ∙ length-drop 1 xs)

  -- .. and is back with their order
  module _ {ys : List ℕ} (e : ys ≡ order_at (length others) (r - d * f)) where
    is_order : ys ≡ order_at (length xs - 1) (r - d * f)
    is_order = rw length-others at e

    long : length ys ≡ length xs - 1
    long = ap length is_order ∙ length_order_at (length xs - 1) (r - d * f)

    pub continued : put_mid 1 (length (set xs 0 d) - 1) (set xs 0 d) ys ≡ d ∷ ys
    continued = rw starts (back d (drop 1 xs) ys (long ∙ sym (length-drop 1 xs)))

    pub below : length xs ≤ 6 → Below 1024 ys
    below h = rw is_order (order_below (length xs - 1) (r - d * f) 1024 left_below (omega arith) (omega arith))

    -- the first entry, and behind it those that made way
    order_written : d ∷ map (past d) ys ≡ order_at (length xs) r
    unfolding order_at
    order_written = rw (is_order, left, B.first, B.factor) (go (length xs) B.some)
      where
        go : (n : ℕ) → 0 < n
            → (r / factorial (n - 1)) ∷ map (past (r / factorial (n - 1))) (order_at (n - 1) (r % factorial (n - 1))) ≡ order_at n r
        go zero h = absurd (omega arith)
        go (suc n) h = let z : suc n - 1 ≡ n = omega arith in rw z

    abbrev pub halfway : List ℕ
    halfway = put_mid 1 (length (set xs 0 d) - 1) (set xs 0 d) ys

    pub finished : {zs : List ℕ} → zs ≡ map (past d) (take (length halfway - 1) (drop 1 halfway))
        → put_mid 1 (length halfway - 1) halfway zs ≡ order_at (length xs) r
    finished {zs} g =
        let made : zs ≡ map (past d) ys =
        g ∙ ap (λ h. map (past d) (take (length h - 1) (drop 1 h))) continued ∙ ap (map (past d)) (lent d ys)
        in
        ap (λ h. put_mid 1 (length h - 1) h zs) continued
        ∙ back d ys zs (ap length made ∙ length-map ys (past d))
        ∙ ap (λ l. d ∷ l) made
        ∙ order_written

-- no place, no entry
pub order_none : (xs : List ℕ) (r : ℕ) → length xs ≡ 0 → xs ≡ order_at (length xs) r
unfolding order_at
order_none [] r e = refl
order_none (x ∷ xs) r e = absurd (omega arith)
