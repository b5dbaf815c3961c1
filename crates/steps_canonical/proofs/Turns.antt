-- A layer of switches acts: the item at a side of a pair comes from the side that the pair's bit turns it to.
-- Assumes nothing.
use mathlib.Core.Path.{◌≡◌, sym, ap, ◌∙◌}
use mathlib.Core.Logic.{◌≢◌}
use mathlib.Core.Bool.{Bool, true, false}
use mathlib.Core.List.{List}
use Prim.Native.Nat.{ℕ, ◌+◌, ◌≤◌, ◌<◌}
use native.Mathlib.Omega.{arith}
use native.Mathlib.Decide.{dec_lt}
use lib.ListN.{length, get_or, get_or-eq_default}
use Rattle.counts.specs.Counts.{up}
use Rattle.network.specs.Wiring.{Wiring, Lawful, Side}
use Rattle.network.specs.Network.{down}
use Rattle.network.proofs.Places.{enc_apart}
use Rattle.canonical.specs.Rule.{half}
use Rattle.steps.specs.Sweeps.{act}
use Rattle.steps.proofs.Places.{Unlike, size_of, half-below, real}
use Rattle.steps.proofs.Sweeps.{SidesUnlike, act-at, act_off}
use Rattle.steps_canonical.proofs.Parts.{part, length_part, part_at}

module _ {w : Wiring} (L : Lawful w) (m : ℕ) (place : ℕ → ℕ) (U : Unlike m place) (bits : List ℕ) (b c : ℕ) (few : c ≤ down m)
    (room : b + c ≤ length bits) where
  abbrev at : Side → ℕ
  at p = place (w.enc (up m) p)

  abbrev layer : List ℕ
  layer = part b c bits

  below : (t : Bool) (i : ℕ) → i < c → i < size_of m t
  below false i l = omega arith
  below true i l = omega arith

  past : (i : ℕ) (t : Bool) → c ≤ i → half layer (i, t) ≡ t
  unfolding half
  past i t h = rw (get_or-eq_default layer 0 {n = i} (omega (arith, length_part b c bits room)))

  -- the side that an item comes from is real too
  pub turned_real : (i : ℕ) (t : Bool) → i < size_of m t → i < size_of m (half layer (i, t))
  turned_real i t l = go (dec_lt i c)
    where
      go : Dec (i < c) → i < size_of m (half layer (i, t))
      go (yes h) = below (half layer (i, t)) i h
      go (no h) = rw (past i t (omega arith)) l

  unlike : SidesUnlike c at
  unfolding SidesUnlike Unlike
  unlike p q lp lq e =
      enc_apart L (up m) p q (omega arith) (omega arith)
      (U _ _ (real w L m p.1 p.0 (below p.1 p.0 lp)) (real w L m q.1 q.0 (below q.1 q.0 lq)) e)

  module _ (xs : List ℕ) where
    pub turned_off : (z : ℕ) → ((i : ℕ) → i < m → z ≢ place i) → get_or (act at bits b c xs) z 0 ≡ get_or xs z 0
    turned_off z d = act_off at bits b xs c z (λ p l. d _ (real w L m p.1 p.0 (below p.1 p.0 l)))

    pub turned-at : ((i : ℕ) → i < m → place i < length xs) → (i : ℕ) (t : Bool) → i < size_of m t
        → get_or (act at bits b c xs) (at (i, t)) 0 ≡ get_or xs (at (i, half layer (i, t))) 0
    unfolding half Unlike
    turned-at space i t l = go (dec_lt i c)
      where
        go : Dec (i < c) → get_or (act at bits b c xs) (at (i, t)) 0 ≡ get_or xs (at (i, half layer (i, t))) 0
        go (yes h) =
            act-at at bits b xs c unlike (λ p lp. space _ (real w L m p.1 p.0 (below p.1 p.0 lp))) i t h
            ∙ rw (part_at b c bits i h)
        go (no h) =
            act_off at bits b xs c (at (i, t)) (λ p lp e. omega (arith, apart p lp e))
            ∙ ap (λ s. get_or xs (at (i, s)) 0) (sym (past i t (omega arith)))
          where
            apart : (p : Side) → p.0 < c → at (i, t) ≡ at p → i ≡ p.0
            apart p lp e =
                ap (λ (q : Side). q.0)
                (enc_apart L (up m) (i, t) p (half-below m t i l) (omega arith)
                (U _ _ (real w L m t i l) (real w L m p.1 p.0 (below p.1 p.0 lp)) e))
