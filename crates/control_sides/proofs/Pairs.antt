-- The pairs of each wiring with no branch.
-- Assumes nothing.
use mathlib.Core.Path.{◌≡◌, refl}
use mathlib.Core.Bool.{Bool, true, false, not, cond}
use Prim.Native.Nat.{ℕ, ◌+◌, ◌-◌, ◌*◌, ◌%◌, ◌≤◌, ◌<◌}
use native.Mathlib.Omega.{arith}
use native.Mathlib.Decide.{dec_lt}
use lib.Bits.{bit_and}
use lib.Dec.{ltb, eqb}
use borrow.Author.Tests.{lt-ltb, le-ltb, eq-eqb, ne_eqb}
use Rattle.network.specs.Wiring.{paper, neighbour}
use Rattle.steps.specs.Steps.{other, digit}
use Rattle.select.proofs.Numbers.{masked}

-- ---- the paper's wiring

-- of the place p of k pairs: the sums of the code fit, and what they give
pub record Pairs (k p : ℕ) : Type 0 where
  pub fits : k * digit (not (ltb p k)) ≤ k
  pub within : k * digit (not (ltb p k)) ≤ p
  pub twice_fits : 2 * k * digit (not (ltb p k)) ≤ 2 * k
  pub twice_within : 2 * k * digit (not (ltb p k)) ≤ p + k
  pub pair : p - k * digit (not (ltb p k)) ≡ (paper.dec k p).0
  pub across : p + k - 2 * k * digit (not (ltb p k)) ≡ other paper k p
  pub side : digit (not (ltb p k)) ≡ digit (paper.dec k p).1

pub pairs : (k p : ℕ) → Pairs k p
pairs k p = go (dec_lt p k)
  where
    go : Dec (p < k) → Pairs k p
    go (yes l) =
        let q = lt-ltb p k l in
        let z : k * 0 ≡ 0 = omega arith in
        let z₂ : 2 * k * 0 ≡ 0 = omega arith in
        record {
          fits = rw q (omega arith);
          within = rw q (omega arith);
          twice_fits = rw q (omega arith);
          twice_within = rw q (omega arith);
          pair = rw (q, z) (omega arith);
          across = rw (q, z₂) (omega arith);
          side = rw q;
        }
    go (no l) =
        let q = le-ltb p k (omega arith) in
        let o : k * 1 ≡ k = omega arith in
        let o₂ : 2 * k * 1 ≡ 2 * k = omega arith in
        record {
          fits = rw q (omega arith);
          within = rw q (omega arith);
          twice_fits = rw q (omega arith);
          twice_within = rw q (omega arith);
          pair = rw (q, o) (omega arith);
          across = rw (q, o₂) (omega arith);
          side = rw q;
        }

-- k regained under the mask of a bit
pub regained : (k v s r : ℕ) → r ≡ s * 65535 → s < 2 → k < 65536 → (bit_and k r ≤ k) × (v + bit_and k r ≡ paper.enc k (v, eqb s 1))
regained k v s r e h l = rw (e, masked 16 65535 refl s k h l) (go (eqb s 1))
  where
    go : (b : Bool) → (cond b k 0 ≤ k) × (v + cond b k 0 ≡ paper.enc k (v, b))
    go true = (omega arith, omega arith)
    go false = (omega arith, omega arith)

-- ---- the neighbour wiring

-- of the place p of k pairs: the rest of its half is its side
pub record Neighbours (k p : ℕ) : Type 0 where
  pub across : p + 1 - 2 * (p % 2) ≡ other neighbour k p
  pub side : p % 2 ≡ digit (neighbour.dec k p).1

pub neighbours : (k p : ℕ) → Neighbours k p
neighbours k p = go (dec_lt (p % 2) 1)
  where
    go : Dec (p % 2 < 1) → Neighbours k p
    go (yes l) = let q = ne_eqb (p % 2) 1 (λ e. omega arith) in record { across = rw q (omega arith); side = rw q (omega arith) }
    go (no l) = let q = eq-eqb (p % 2) 1 (omega arith) in record { across = rw q (omega arith); side = rw q (omega arith) }

-- doubled, and the bit added
pub doubled : (k v s : ℕ) → s < 2 → 2 * v + s ≡ neighbour.enc k (v, eqb s 1)
doubled k v s h = go (dec_lt s 1)
  where
    go : Dec (s < 1) → 2 * v + s ≡ neighbour.enc k (v, eqb s 1)
    go (yes l) = rw (ne_eqb s 1 (λ e. omega arith)) (omega arith)
    go (no l) = rw (eq-eqb s 1 (omega arith)) (omega arith)
