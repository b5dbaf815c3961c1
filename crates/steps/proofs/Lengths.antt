-- The setter logs E n entries.
-- Assumes nothing.
use mathlib.Core.Path.{◌≡◌, refl, sym}
use mathlib.Core.List.{[]}
use Prim.Native.Nat.{ℕ, zero, suc, ◌+◌, ◌-◌, ◌*◌, ◌≤◌, ◌<◌}
use native.Mathlib.Omega.{arith}
use native.Mathlib.Decide.{dec_lt}
use lib.ListN.{length, length-append}
use borrow.Author.Tests.{lt-ltb, le-ltb}
use Rattle.counts.specs.Counts.{up, E}
use Rattle.counts.proofs.Rule.{E_none, E_two, E_more}
use Rattle.network.specs.Wiring.{Wiring}
use Rattle.network.specs.Network.{Network}
use Rattle.network.proofs.Shape.{Sized, none, some, sized}
use Rattle.steps.specs.Sequence.{rounds, input_entries, entries_of, set_entries}

pub length-rounds : (i o m b : ℕ) → length (rounds i o m b) ≡ 3 * i
unfolding rounds
length-rounds zero o m b = refl
length-rounds (suc i) o m b = simp length-append (omega (arith, length-rounds i o m b))

input_none : (o m b : ℕ) → m ≤ 2 → input_entries o m b ≡ []
unfolding input_entries
input_none o m b h = rw (le-ltb 2 m h)

length-input : (o m b : ℕ) → 2 < m → length (input_entries o m b) ≡ 3 * up m + 1
unfolding input_entries
length-input o m b h = rw (lt-ltb 2 m h) (simp length-append (omega (arith, length-rounds (up m) o m b)))

-- a network's count from those of its parts
pub E_parts : (o m b : ℕ) → 2 ≤ m → length (input_entries o m b) + (1 + (E (up m) + (E (m - up m) + 1))) ≡ E m
E_parts o m b two = go (dec_lt 2 m)
  where
    pair : m ≡ 2 → 0 + (1 + (E (up m) + (E (m - up m) + 1))) ≡ E m
    pair e = rw (e, E_none 1 (omega arith), E_two)

    go : Dec (2 < m) → length (input_entries o m b) + (1 + (E (up m) + (E (m - up m) + 1))) ≡ E m
    go (yes h) = omega (arith, length-input o m b h, E_more m h)
    go (no h) = rw (input_none o m b (omega arith)) (pair (omega arith))

module _ (w : Wiring) where
  pub length-entries : {m : ℕ} {net : Network} → Sized m net → (place : ℕ → ℕ) (b : ℕ) → length (entries_of w net place b) ≡ E m
  unfolding entries_of
  length-entries {m} (none h) place b = sym (E_none m h)
  length-entries {m} (some two t u) place b =
      simp (length-append, length-entries t, length-entries u) (omega (arith, E_parts (place 0) m b two))

  pub length-set_entries : (n : ℕ) → length (set_entries w n) ≡ E n
  unfolding set_entries
  length-set_entries n = length-entries (sized n) (λ i. i) 0
