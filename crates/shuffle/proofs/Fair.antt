-- FAIR DRAWING, place by place: place i of n is exchanged with each place from i on under equally many words (02, F-5).
-- Assumes nothing.
use mathlib.Core.Path.{◌≡◌, sym, ap, ◌∙◌}
use mathlib.Core.Bool.{◌&&◌}
use Prim.Native.Nat.{ℕ, ◌-◌, ◌/◌, ◌%◌, ◌^◌, ◌≤◌, ◌<◌}
use native.Mathlib.Omega.{arith}
use native.Mathlib.Decide.{ℕ_discrete}
use lib.Dec.{eqb}
use borrow.Author.Tests.{eq-eqb, ne_eqb}
use Rattle.permutation.proofs.Sweeps.{same_count}
use Rattle.shuffle_fair.specs.Words.{fit}
use Rattle.shuffle_fair.proofs.Fair.{fair}
use Rattle.shuffle.specs.Shuffled.{partner, words_exchanging}

module _ (n i j : ℕ) (from : i ≤ j) (below : j < n) where
  -- the word whose remainder leads from i to j
  leads : (word : ℕ) → eqb (partner n i word) j ≡ eqb (word % (n - i)) (j - i)
  leads word = go (ℕ_discrete (word % (n - i)) (j - i))
    where
      go : Dec (word % (n - i) ≡ j - i) → eqb (partner n i word) j ≡ eqb (word % (n - i)) (j - i)
      go (yes e) = eq-eqb (partner n i word) j (omega arith) ∙ sym (eq-eqb (word % (n - i)) (j - i) e)
      go (no e) = ne_eqb (partner n i word) j (λ q. e (omega arith)) ∙ sym (ne_eqb (word % (n - i)) (j - i) e)

  pub each_place : words_exchanging n i j ≡ 2 ^ 32 / (n - i)
  each_place =
      same_count _ _ (2 ^ 32) (λ word l. ap (λ b. fit (n - i) word && b) (leads word)) ∙ fair (n - i) (j - i) (omega arith)
