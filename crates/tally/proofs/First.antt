-- The first i of 1,024 numbers are f 0, f 1, ..
-- Assumes nothing.
use Rattle.std.proofs.Common.{◌≡◌, ℕ, ◌+◌, ◌<◌, ◌≤◌, List, length, get_or, set, replicate, sym, ◌∙◌, add-one, arith, length-set, get_or-set_other, get_or-set_same}
use native.Mathlib.Decide.{ℕ_discrete}
use lib.ListN.{length-replicate}
use Rattle.tally.specs.Tallies.{scrambled, after, Holds}

pub record First (f : ℕ → ℕ) (i : ℕ) (words : List ℕ) : Type 0 where
  pub many : length words ≡ 1024
  pub each : (j : ℕ) → j < i → get_or words j 0 ≡ f j

module _ (f : ℕ → ℕ) where
  pub first_none : First f 0 (replicate 1024 0)
  first_none = record { many = length-replicate {A = ℕ} 1024 0; each = λ j l. absurd (omega (arith, l)) }

  pub first_more : (i z : ℕ) (words : List ℕ) → i < 1024 → z ≡ f i → First f i words → First f (i + 1) (set words i z)
  first_more i z words l e F = record { many = length-set words i z ∙ F.many; each = at }
    where
      at : (j : ℕ) → j < i + 1 → get_or (set words i z) j 0 ≡ f j
      at j h = go (ℕ_discrete i j)
        where
          go : Dec (i ≡ j) → get_or (set words i z) j 0 ≡ f j
          go (yes q) = rw (sym q) (get_or-set_same words i z 0 (omega (arith, F.many)) ∙ e)
          go (no q) = get_or-set_other words i j z 0 (λ r. q (sym r)) ∙ F.each j (omega (arith, h, q))

  pub first_all : (i : ℕ) (words : List ℕ) → 1024 ≤ i → First f i words → Holds f 1024 words
  first_all i words l F = record { many = F.many; each = λ j h. F.each j (omega (arith, l, h)) }

-- one step more of the sequence
pub after_more : (x i y z : ℕ) → y ≡ after i x → z ≡ scrambled y → z ≡ after (i + 1) x
unfolding after
after_more x i y z e f = rw (add-one i, f, e)
