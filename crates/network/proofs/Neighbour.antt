-- The neighbour wiring is lawful.
-- Assumes nothing.
use mathlib.Core.Bool.{Bool, true, false, cond}
use mathlib.Core.Path.{◌≡◌, ap}
use Prim.Native.Nat.{ℕ, ◌+◌, ◌*◌, ◌%◌, ◌<◌}
use native.Mathlib.Omega.{arith}
use native.Mathlib.Decide.{dec_lt}
use borrow.Author.Tests.{eq-eqb, ne_eqb}
use Rattle.network.specs.Wiring.{Lawful, neighbour}

module _ (k : ℕ) where
  enc_below : (i : ℕ) (t : Bool) → i < k → i * 2 + cond t 1 0 < k + k
  enc_below i true h = omega arith
  enc_below i false h = omega arith

  back : (q : ℕ) → neighbour.enc k (neighbour.dec k q) ≡ q
  back q = go (dec_lt (q % 2) 1)
    where
      go : Dec (q % 2 < 1) → neighbour.enc k (neighbour.dec k q) ≡ q
      go (yes l) = rw (ne_eqb (q % 2) 1 (λ e. omega arith)) (omega arith)
      go (no l) = rw (eq-eqb (q % 2) 1 (omega arith)) (omega arith)

  there : (i : ℕ) (t : Bool) → neighbour.dec k (i * 2 + cond t 1 0) ≡ (i, t)
  there i true =
      rw (eq-eqb ((i * 2 + 1) % 2) 1 (omega arith)) (ap (λ (j : ℕ). (j, true)) (omega arith))
  there i false =
      rw (ne_eqb ((i * 2 + 0) % 2) 1 (λ e. omega arith)) (ap (λ (j : ℕ). (j, false)) (omega arith))

pub neighbour_lawful : Lawful neighbour
neighbour_lawful =
    record {
      enc< = λ k p h. enc_below k p.0 p.1 h;
      dec< = λ k q h. omega arith;
      enc_dec = λ k q h. back k q;
      dec_enc = λ k p h. there k p.0 p.1;
      enc_last = λ j. omega arith;
    }
