-- The way of an item through one network, in the words of the rule: it enters a half, leaves it at a place of the half, and
-- leaves the network at a side of that pair. Assumes nothing.
use mathlib.Core.Path.{◌≡◌, refl, sym, ap, ◌∙◌, subst}
use mathlib.Core.Bool.{Bool, true, false, cond}
use mathlib.Core.List.{List, [], ◌++◌}
use Prim.Native.Nat.{ℕ, ◌-◌, ◌<◌}
use native.Mathlib.Omega.{arith}
use native.Mathlib.Decide.{dec_lt}
use lib.Dec.{eqb}
use lib.ListN.{length, get_or-append}
use Rattle.counts.specs.Counts.{up}
use Rattle.network.specs.Wiring.{Wiring, Side}
use Rattle.network.specs.Network.{down}
use Rattle.network.proofs.Places.{Lies, crosses, crosses_in, crosses-past, flipped, turned, lies_turned}
use Rattle.network.proofs.Where.{through, in_halves}
use Rattle.canonical.specs.Rule.{half}
use Rattle.canonical.proofs.Sides.{bit_at, bit_at_past, turn}

-- the network's words for a turned side
flipped-turn : (s c : Bool) → flipped s c ≡ turn c s
flipped-turn s true = refl
flipped-turn s false = refl

-- and for a bit: past the last switch of a layer it is 0
crosses-bit : (c : ℕ) (xs rest : List ℕ) → length xs ≡ c → (i : ℕ) → crosses c (xs ++ rest) i ≡ bit_at xs i
crosses-bit c xs rest e i = go (dec_lt i c)
  where
    go : Dec (i < c) → crosses c (xs ++ rest) i ≡ bit_at xs i
    go (yes l) = crosses_in c (xs ++ rest) i l ∙ ap (λ b. eqb b 1) (get_or-append xs rest 0 i (omega arith))
    go (no l) =
        crosses-past c (xs ++ rest) i (omega arith)
        ∙ sym (bit_at_past xs i (omega arith))

-- through a layer of c switches
pub turned-half : (c : ℕ) (xs rest : List ℕ) → length xs ≡ c → (p : Side) → turned (crosses c (xs ++ rest)) p ≡ (p.0, half xs p)
unfolding half
turned-half c xs rest e p =
    λ i. (p.0, (ap (flipped p.1) (crosses-bit c xs rest e p.0) ∙ flipped-turn p.1 (bit_at xs p.0)) i)

module _ (m : ℕ) (input : List ℕ) (count : length input ≡ up m - 1) where
  -- an item that has a place enters its half at a place of the half
  pub entered_lies : (p : Side) → Lies m p → Lies m (p.0, half input p)
  entered_lies p l =
      subst (Lies m) (turned-half (up m - 1) input [] count p)
      (lies_turned m (up m - 1) (input ++ []) p (omega arith) l)

-- f and g: where the halves take what enters them
module _ (input output : List ℕ) (f g : ℕ → ℕ) where
  abbrev pub leaves_at : Side → ℕ
  leaves_at p = cond (half input p) (g p.0) (f p.0)

  abbrev pub leaves : Side → Side
  leaves p = (leaves_at p, half output (leaves_at p, half input p))

  pub through-leaves :
      (w : Wiring) (m : ℕ) (rest tail : List ℕ) → length input ≡ up m - 1 → length output ≡ down m → (q : ℕ)
      → through w (up m) (crosses (up m - 1) (input ++ rest)) (in_halves f g) (crosses (down m) (output ++ tail)) q
      ≡ w.enc (up m) (leaves (w.dec (up m) q))
  through-leaves w m rest tail i o q =
      let k = up m in
      let p : Side = w.dec k q in
      ap (λ (r : Side). w.enc k (turned (crosses (down m) (output ++ tail)) (in_halves f g r))) (turned-half (k - 1) input rest i p)
      ∙ ap (w.enc k) (turned-half (down m) output tail o (leaves_at p, half input p))
