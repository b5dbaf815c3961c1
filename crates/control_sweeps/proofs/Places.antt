-- One place more of each sweep: what the code does at place i takes the sweep of i places to that of i + 1.
-- Assumes nothing.
use mathlib.Core.Path.{◌≡◌, refl, sym, ap, fun_ext, ◌∙◌}
use mathlib.Core.Bool.{Bool, true, false, cond}
use mathlib.Core.List.{List}
use Prim.Native.Nat.{ℕ, zero, suc, ◌+◌, ◌*◌, ◌%◌, ◌≤◌, ◌<◌}
use native.Mathlib.Numerals.{add-one}
use native.Mathlib.Omega.{arith}
use lib.Dec.{eqb}
use lib.ListN.{length, get_or, set}
use lib.Seq.{get_or-set_other, set-get_or}
use Rattle.network.specs.Wiring.{Side}
use Rattle.network.specs.Network.{down}
use Rattle.network.specs.Move.{switch}
use Rattle.network.proofs.Places.{lies_both, lies_below}
use Rattle.steps.specs.Sweeps.{each, act}
use Rattle.wirings.specs.declared.Net.{Net}
use Rattle.wirings.specs.Nets.{place_of, side_of, Spaced, stepped}
use Rattle.wirings.proofs.Halves.{lawful, fewer, inside_more, rises, lower_at, upper_at, sides-stepped}
use Rattle.control_sweeps.specs.Tables.{Below, Within, Covers, Reaches}

pub each_step : (place : ℕ → ℕ) (F : ℕ → ℕ → ℕ) (xs x₀ : List ℕ) (i : ℕ) → xs ≡ each place i F x₀
    → set xs (place i) (F i (get_or xs (place i) 0)) ≡ each place (i + 1) F x₀
unfolding each
each_step place F xs x₀ i e = rw (e, add-one i)

-- a place of the network that is still to come holds what it held
each-ahead : (net : Net) → 1 ≤ net.apart → (n : ℕ) (F : ℕ → ℕ → ℕ) (xs : List ℕ) (j : ℕ) → n ≤ j
    → get_or (each (place_of net) n F xs) (place_of net j) 0 ≡ get_or xs (place_of net j) 0
unfolding each
each-ahead net far zero F xs j h = refl
each-ahead net far (suc n) F xs j h =
    let ys = each (place_of net) n F xs in
    get_or-set_other ys (place_of net n) (place_of net j) (F n (get_or ys (place_of net n) 0)) 0 (omega (arith, rises net far n j (omega arith)))
    ∙ each-ahead net far n F xs j (omega arith)

pub still : (net : Net) (F : ℕ → ℕ → ℕ) (xs x₀ : List ℕ) (i : ℕ) → 1 ≤ net.apart → xs ≡ each (place_of net) i F x₀
    → get_or xs (place_of net i) 0 ≡ get_or x₀ (place_of net i) 0
still net F xs x₀ i far e = rw e (each-ahead net far i F x₀ i (omega arith))

-- so it is below what bounded it before the sweep
pub ahead-below : (net : Net) (F : ℕ → ℕ → ℕ) (xs x₀ : List ℕ) (i : ℕ) → 1 ≤ net.apart → xs ≡ each (place_of net) i F x₀
    → Within (place_of net) net.size 32768 x₀ → i < net.size → get_or xs (place_of net i) 0 < 32768
unfolding Within
ahead-below net F xs x₀ i far e w l = rw (still net F xs x₀ i far e) (w i l)

pub at_place : (b : ℕ) (xs : List ℕ) (i : ℕ) → Below b xs → get_or xs i 0 < b
unfolding Below
at_place b xs i h = h i

-- a place of the network is one of the table's
pub here : {net : Net} {xs : List ℕ} → Covers net xs → (i : ℕ) → i < net.size → (place_of net i < length xs) × (length xs ≤ 1024)
here C i l = (C.inside.lies i l, C.short)

-- a table as long has them too, and the network is small
pub covers_kept : {net : Net} {xs : List ℕ} (ys : List ℕ) → length ys ≡ length xs → Covers net xs → Covers net ys
covers_kept ys e C = record { inside = inside_more C.inside (omega arith); short = omega (arith, C.short) }

pub small : {net : Net} {xs : List ℕ} → Covers net xs → 2 ≤ net.size → (net.size ≤ 1024) × (net.start ≤ 1024)
small C two = (omega (arith, C.short, fewer C.inside (omega arith)), omega (arith, C.short, C.inside.lies 0 (omega arith)))

-- the places of pair i are two of the table's
pub pair_here : {o step gap n : ℕ} {xs : List ℕ} → Reaches o step gap n xs → (i : ℕ) → i < n → (o + i * step + gap < length xs) ×
    (length xs ≤ 1024)
pair_here R i l = (R.lies i l, R.short)

-- a table that has the network's places has both of its first pairs, and their first places
module _ (net : Net) (step gap n : ℕ) (xs : List ℕ) (S : Spaced net step gap) (C : Covers net xs) (few : n ≤ down net.size) where
  real : (i : ℕ) (t : Bool) → i < n → side_of net (i, t) < net.size
  real i t l = lies_below (lawful net.topology) net.size (i, t) (lies_both net.size (i, t) (omega arith))

  pub reaches : (s : ℕ) → s ≡ step → Reaches net.start s gap n xs
  reaches s e =
      record {
        lies = λ i l. rw e (omega (arith, upper_at net step gap S i, C.inside.lies (side_of net (i, true)) (real i true l)));
        short = C.short;
      }

  pub reaches_first : (s : ℕ) → s ≡ step → Reaches net.start s 0 n xs
  reaches_first s e =
      record {
        lies = λ i l. rw e (omega (arith, lower_at net step gap S i, C.inside.lies (side_of net (i, false)) (real i false l)));
        short = C.short;
      }

pub act-step : (p q i s : ℕ) (at : (ℕ × Bool) → ℕ) (bits xs x₀ : List ℕ) (b : ℕ) → at (i, false) ≡ p → at (i, true) ≡ q
    → s ≡ get_or bits (b + i) 0 → xs ≡ act at bits b i x₀
    → set (set xs p (cond (eqb s 1) (get_or xs q 0) (get_or xs p 0))) q (cond (eqb s 1) (get_or xs p 0) (get_or xs q 0)) ≡ act at bits b (i + 1) x₀
unfolding act switch
act-step p q i s at bits xs x₀ b lower upper t e = rw (add-one i, act, switch, lower, upper, ← t, ← e) (go (eqb s 1))
  where
    go : (d : Bool)
        → set (set xs p (cond d (get_or xs q 0) (get_or xs p 0))) q (cond d (get_or xs p 0) (get_or xs q 0)) ≡ cond d
        (set (set xs p (get_or xs q 0)) q (get_or xs p 0)) xs
    go true = refl
    go false = rw (set-get_or xs p 0) (set-get_or xs q 0)

-- what switches by steps did, switches of the network did
pub acted : (net : Net) (step gap s : ℕ) → Spaced net step gap → s ≡ step → (bits : List ℕ) (b n : ℕ) (xs ys : List ℕ)
    → ys ≡ act (stepped net.start s gap) bits b n xs → ys ≡ act (λ p. place_of net (side_of net p)) bits b n xs
acted net step gap s S e bits b n xs ys f =
    f ∙ ap (λ x. act (stepped net.start x gap) bits b n xs) e
    ∙ ap (λ (at : Side → ℕ). act at bits b n xs) (sym (sides-stepped net step gap S))

-- and bits taken by steps are those of the pairs' first places
pub taken : (net : Net) (step gap s : ℕ) → Spaced net step gap → s ≡ step → (b n : ℕ) (trails xs ys : List ℕ)
    → ys ≡ each (λ i. b + i) n (λ i x. get_or trails (net.start + i * s) 0 % 2) xs
    → ys ≡ each (λ i. b + i) n (λ i x. get_or trails (place_of net (side_of net (i, false))) 0 % 2) xs
taken net step gap s S e b n trails xs ys f =
    f ∙ ap (λ x. each (λ i. b + i) n (λ i _. get_or trails (net.start + i * x) 0 % 2) xs) e
    ∙ ap (λ (at : ℕ → ℕ). each (λ i. b + i) n (λ i x. get_or trails (at i) 0 % 2) xs) (sym (fun_ext (lower_at net step gap S)))
