-- The first bad index as a sweep finds it: one index at a time, by arithmetic on two tests.
-- Assumes nothing.
use mathlib.Core.Path.{◌≡◌, refl, sym, ◌∙◌}
use mathlib.Core.Bool.{Bool, true, false}
use Prim.Native.Nat.{ℕ, ◌+◌, ◌≤◌, ◌<◌}
use native.Mathlib.Omega.{arith}
use native.Mathlib.Decide.{ℕ_discrete}
use mir.Val.{bool_byte}
use lib.Bits.{bit_and}
use lib.Dec.{eqb}
use borrow.Author.Tests.{eqb-true, eqb-false}
use Rattle.answers.specs.Questions.{first_bad}
use Rattle.answers.proofs.Questions.{bad_within, bad_counts, bad_stops, bad_stays}

-- `low` counts on at i exactly where i is good and all before it are
pub sweep_counts : (good : ℕ → Bool) (i low : ℕ) → low ≡ first_bad good i
    → low + bit_and (bool_byte (good i)) (bool_byte (eqb low i)) ≡ first_bad good (i + 1)
sweep_counts good i low e = go (good i) (eqb low i) refl refl
  where
    below : eqb low i ≡ false → first_bad good i < i
    below d = elim (ℕ_discrete low i) [ yes s ↦ absurd (eqb-false low i d s) | no s ↦ omega (arith, bad_within good i, e) ]

    go : (b d : Bool) → good i ≡ b → eqb low i ≡ d → low + bit_and (bool_byte b) (bool_byte d) ≡ first_bad good (i + 1)
    go true true t d = omega (arith, eqb-true low i d, bad_counts good i (sym e ∙ eqb-true low i d) t)
    go false true t d = omega (arith, eqb-true low i d, bad_stops good i (sym e ∙ eqb-true low i d) t)
    go true false t d = omega (arith, e, bad_stays good i (below d))
    go false false t d = omega (arith, e, bad_stays good i (below d))

pub sweep_fits : (a b : Bool) → bit_and (bool_byte a) (bool_byte b) ≤ 1
sweep_fits true true = omega arith
sweep_fits true false = omega arith
sweep_fits false true = omega arith
sweep_fits false false = omega arith
