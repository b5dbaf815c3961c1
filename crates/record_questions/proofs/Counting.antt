-- Loops that count the entries that stay home.
-- Assumes nothing.
use mathlib.Core.Path.{◌≡◌, sym, ap, ◌∙◌}
use mathlib.Core.List.{List}
use Prim.Native.Nat.{ℕ, ◌+◌, ◌≤◌, ◌<◌}
use native.Mathlib.Omega.{arith}
use lib.Dec.{eqb}
use lib.ListN.{length, get_or}
use Rattle.permutation.specs.Permutations.{bit, how_many, fixed_points}
use Rattle.permutation.proofs.Sweeps.{bit_small, none_counted, one-counted, same_count}

-- c of f 0, .., f (i - 1) stay home
pub record Counting (f : ℕ → ℕ) (c i : ℕ) : Type 0 where
  pub few : c ≤ i
  pub found : c ≡ how_many (λ j. eqb (f j) j) i

module _ (f : ℕ → ℕ) where
  pub counting_starts : Counting f 0 0
  counting_starts = record { few = omega arith; found = none_counted (λ j. eqb (f j) j) }

  pub counting_more : {c i x h : ℕ} → x ≡ f i → h ≡ bit (eqb x i) → Counting f c i → Counting f (c + h) (i + 1)
  counting_more {c} {i} {x} t e C =
      record {
        few = omega (arith, C.few, e, bit_small (eqb x i));
        found = ap (λ k. c + k) (e ∙ ap (λ y. bit (eqb y i)) t) ∙ one-counted (λ j. eqb (f j) j) i C.found;
      }

  pub counted : (n : ℕ) (es : List ℕ) {c i : ℕ} → i ≡ n → length es ≡ n → ((v : ℕ) → v < n → get_or es v 0 ≡ f v)
      → Counting f c i → c ≡ fixed_points es
  counted n es {c} {i} l k t C =
      C.found
      ∙ ap (how_many (λ j. eqb (f j) j)) (l ∙ sym k)
      ∙ same_count (λ j. eqb (f j) j) (λ j. eqb (get_or es j 0) j) (length es) (λ v m. ap (λ y. eqb y v) (sym (t v (omega arith))))
