-- The places of a network under a lawful wiring: which sides are real, and that the halves' places are unlike.
-- Assumes nothing.
use mathlib.Core.Path.{◌≡◌, refl, ap, subst}
use mathlib.Core.Bool.{Bool, true, false}
use Prim.Native.Nat.{ℕ, ◌≤◌, ◌<◌}
use native.Mathlib.Omega.{arith}
use Rattle.counts.specs.Counts.{up}
use Rattle.network.specs.Wiring.{Wiring, Lawful, Side}
use Rattle.network.specs.Network.{down}
use Rattle.network.proofs.Places.{Lies, lies_top, lies_both, lies_below, below_lies, enc_apart}

-- places that lie apart: no two of m lie at one place
unfoldable pub Unlike : ℕ → (ℕ → ℕ) → Type 0
Unlike m place = (i j : ℕ) → i < m → j < m → place i ≡ place j → i ≡ j

-- how many places a half has: false is the top
abbrev pub size_of : ℕ → Bool → ℕ
size_of m false = up m
size_of m true = down m

pub half-below : (m : ℕ) (t : Bool) (i : ℕ) → i < size_of m t → i < up m
half-below m false i h = h
half-below m true i h = omega arith

pub half_smaller : (m : ℕ) (t : Bool) → 2 ≤ m → size_of m t < m
half_smaller m false h = omega arith
half_smaller m true h = omega arith

pub lies : (m : ℕ) (t : Bool) (i : ℕ) → i < size_of m t → Lies m (i, t)
lies m false i h = lies_top m i h
lies m true i h = lies_both m (i, true) h

module _ (w : Wiring) (L : Lawful w) where
  -- a side of a half is a place of the network
  pub real : (m : ℕ) (t : Bool) (i : ℕ) → i < size_of m t → w.enc (up m) (i, t) < m
  real m t i h = lies_below L m (i, t) (lies m t i h)

  -- a place of the network is a side of a half
  pub real⁻ : (m : ℕ) (p : Side) → p.0 < up m → w.enc (up m) p < m → p.0 < size_of m p.1
  real⁻ m p l h = go p.1 refl (subst (Lies m) (L.dec_enc (up m) p l) (below_lies L m (w.enc (up m) p) h))
    where
      go : (t : Bool) → p.1 ≡ t → Lies m p → p.0 < size_of m t
      go false e i = l
      go true e i = i.other e

  module _ (m : ℕ) (place : ℕ → ℕ) (U : Unlike m place) where
    -- two sides of real places that lie at one place are one
    pub sides_unlike : (s t : Bool) (i j : ℕ) → i < size_of m s → j < size_of m t
        → place (w.enc (up m) (i, s)) ≡ place (w.enc (up m) (j, t)) → ◌≡◌ {A = Side} (i, s) (j, t)
    unfolding Unlike
    sides_unlike s t i j hi hj e =
        enc_apart L (up m) (i, s) (j, t) (half-below m s i hi) (half-below m t j hj)
        (U _ _ (real m s i hi) (real m t j hj) e)

    pub half_unlike : (t : Bool) → Unlike (size_of m t) (λ i. place (w.enc (up m) (i, t)))
    unfolding Unlike
    half_unlike t i j hi hj e = ap (λ (p : Side). p.0) (sides_unlike t t i j hi hj e)
