-- The paper's wiring is lawful.
-- Assumes nothing.
use mathlib.Core.Bool.{Bool, true, false, cond}
use mathlib.Core.Path.{◌≡◌, ap}
use Prim.Native.Nat.{ℕ, ◌+◌, ◌<◌}
use native.Mathlib.Omega.{arith}
use native.Mathlib.Decide.{dec_lt}
use borrow.Author.Tests.{lt-ltb, le-ltb}
use Rattle.network.specs.Wiring.{Lawful, paper}

module _ (k : ℕ) where
  enc_below : (i : ℕ) (t : Bool) → i < k → cond t (k + i) i < k + k
  enc_below i true h = omega arith
  enc_below i false h = omega arith

  dec_below : (q : ℕ) → q < k + k → (paper.dec k q).0 < k
  dec_below q h = go (dec_lt q k)
    where
      go : Dec (q < k) → (paper.dec k q).0 < k
      go (yes l) = rw (lt-ltb q k l) l
      go (no l) = rw (le-ltb q k (omega arith)) (omega arith)

  back : (q : ℕ) → paper.enc k (paper.dec k q) ≡ q
  back q = go (dec_lt q k)
    where
      go : Dec (q < k) → paper.enc k (paper.dec k q) ≡ q
      go (yes l) = rw (lt-ltb q k l)
      go (no l) = rw (le-ltb q k (omega arith)) (omega arith)

  there : (i : ℕ) (t : Bool) → i < k → paper.dec k (cond t (k + i) i) ≡ (i, t)
  there i true h =
      rw (le-ltb (k + i) k (omega arith)) (ap (λ (j : ℕ). (j, true)) (omega arith))
  there i false h = rw (lt-ltb i k h)

pub paper_lawful : Lawful paper
paper_lawful =
    record {
      enc< = λ k p h. enc_below k p.0 p.1 h;
      dec< = λ k q h. dec_below k q h;
      enc_dec = λ k q h. back k q;
      dec_enc = λ k p h. there k p.0 p.1 h;
      enc_last = λ j. omega arith;
    }
