-- One round of the setter's walk (01, steps 1, 2 and 3), as a relation between the stage before and the stage after. Code, log
-- and definitions may all walk in their own way: whatever meets `Round` k times from `Begun` ends in `Done` (Rounds.antt).
-- Assumes nothing.
use mathlib.Core.Path.{◌≡◌}
use mathlib.Core.Logic.{◌≢◌, ◌⊎◌}
use mathlib.Core.Bool.{Bool, true, false, not}
use Prim.Native.Nat.{ℕ, suc, ◌-◌, ◌<◌}
use Rattle.network.specs.Wiring.{Side}
use Rattle.canonical.proofs.Sides.{other, enters}
use Rattle.canonical.proofs.Rings.{Chain}
use Rattle.canonical.proofs.Marks.{Lowest}

-- a stage of the walk: marks and bits of the pairs, and the places f and c
pub record Stage : Type 0 where
  pub mark : ℕ → Bool
  pub bit : ℕ → Bool
  pub f : Side
  pub c : Side

-- before the first round; c and f are already where step 1 puts them
pub record Begun (k : ℕ) (x : Stage) : Type 0 where
  pub no_mark : (j : ℕ) → j < k → x.mark j ≡ false
  pub no_bit : (j : ℕ) → j < k → x.bit j ≡ false
  pub at_f : x.f ≡ (k - 1, false)
  pub at_c : x.c ≡ (k - 1, false)

-- what steps 1, 2 and 3 do; s is `mate x.f`, the place that holds the associate of the value at f
pub record Round (k : ℕ) (mate : Side → Side) (x y : Stage) : Type 0 where
  pub mark_new : y.mark (mate x.f).0 ≡ true
  pub mark_old : (j : ℕ) → j < k → j ≢ (mate x.f).0 → y.mark j ≡ x.mark j
  pub bit_new : suc (mate x.f).0 < k → y.bit (mate x.f).0 ≡ not (mate x.f).1
  pub bit_last : (j : ℕ) → suc j ≡ k → y.bit j ≡ x.bit j
  pub bit_old : (j : ℕ) → j < k → j ≢ (mate x.f).0 → y.bit j ≡ x.bit j
  pub go_on : other (mate x.f) ≢ x.c → (y.f ≡ other (mate x.f)) × (y.c ≡ x.c)
  pub again : other (mate x.f) ≡ x.c → (j : ℕ) → Lowest k y.mark j → (y.f ≡ (j, false)) × (y.c ≡ (j, false))

-- why the bit of pair i is as the rule wants it: it is 0, or the ring has the last pair, or a lower one
unfoldable pub Good : (k : ℕ) (mate : Side → Side) → (ℕ → Bool) → ℕ → Type 0
Good k mate b i =
    (b i ≡ false) ⊎ (((j : ℕ) × (suc j ≡ k) × Chain mate i j) ⊎ ((j : ℕ) × (j < i) × Chain mate i j))

-- after the last round
pub record Done (k : ℕ) (mate : Side → Side) (x : Stage) : Type 0 where
  pub all : (j : ℕ) → j < k → x.mark j ≡ true
  pub opposite : (p : Side) → p.0 < k → enters x.bit (mate p) ≡ not (enters x.bit p)
  pub rule : (i : ℕ) → i < k → Good k mate x.bit i
  pub last_straight : (j : ℕ) → suc j ≡ k → x.bit j ≡ false
