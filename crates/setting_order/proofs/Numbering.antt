-- Blocks that hold their own places.
-- Assumes nothing.
use mathlib.Core.Path.{◌≡◌, refl, ◌∙◌}
use mathlib.Core.List.{List}
use Prim.Native.Nat.{ℕ, ◌+◌, ◌*◌, ◌/◌, ◌%◌, ◌≤◌, ◌<◌}
use native.Mathlib.Omega.{arith}
use native.Mathlib.Decide.{dec_lt}
use lib.ListN.{length, get_or, set, length-set}
use lib.Seq.{get_or-set_same, get_or-set_other}
use Rattle.std.specs.Int.{w16, to_le_bytes}
use Rattle.setting_order.specs.Inner.{Numbered}

-- the two bytes of a place
pub low_byte : (bytes : List ℕ) (i : ℕ) → bytes ≡ to_le_bytes w16 i → get_or bytes 0 0 ≡ i % 256
low_byte bytes i e = rw e (omega arith)

pub high_byte : (bytes : List ℕ) (i : ℕ) → i < 1024 → bytes ≡ to_le_bytes w16 i → get_or bytes 1 0 ≡ i / 256
high_byte bytes i h e = rw e (omega arith)

-- what the loop of `number` keeps
pub record Numbering (n : ℕ) (before blocks : List ℕ) (i : ℕ) : Type 0 where
  pub within : i ≤ n
  pub same : length blocks ≡ length before
  pub done : Numbered i blocks

pub numbering_starts : (n : ℕ) (before : List ℕ) → Numbering n before before 0
numbering_starts n before =
    record { within = omega arith; same = refl; done = record { low = λ i h. absurd (omega arith); high = λ i h. absurd (omega arith) } }

module _ (n : ℕ) (before : List ℕ) {blocks : List ℕ} {i : ℕ} (N : Numbering n before blocks i) where
  abbrev once : List ℕ
  once = set blocks (2 * i) (i % 256)

  abbrev twice : List ℕ
  twice = set once (2 * i + 1) (i / 256)

  pub numbering_more : i < n → 2 * n ≤ length before → Numbering n before twice (i + 1)
  numbering_more h g =
      record {
        within = omega arith;
        same = length-set once (2 * i + 1) (i / 256) ∙ length-set blocks (2 * i) (i % 256) ∙ N.same;
        done = record { low = λ j l. low j (dec_lt j i) l; high = λ j l. high j (dec_lt j i) l };
      }
    where
      room : 2 * i + 1 < length blocks
      room = omega (arith, N.same)

      low : (j : ℕ) → Dec (j < i) → j < i + 1 → get_or twice (2 * j) 0 ≡ j % 256
      low j (yes l) k =
          get_or-set_other once (2 * i + 1) (2 * j) (i / 256) 0 (λ e. omega arith)
          ∙ get_or-set_other blocks (2 * i) (2 * j) (i % 256) 0 (λ e. omega arith)
          ∙ N.done.low j l
      low j (no l) k =
          let e : j ≡ i = omega arith in
          rw e
          (get_or-set_other once (2 * i + 1) (2 * i) (i / 256) 0 (λ e. omega arith)
          ∙ get_or-set_same blocks (2 * i) (i % 256) 0 (omega (arith, room)))

      high : (j : ℕ) → Dec (j < i) → j < i + 1 → get_or twice (2 * j + 1) 0 ≡ j / 256
      high j (yes l) k =
          get_or-set_other once (2 * i + 1) (2 * j + 1) (i / 256) 0 (λ e. omega arith)
          ∙ get_or-set_other blocks (2 * i) (2 * j + 1) (i % 256) 0 (λ e. omega arith)
          ∙ N.done.high j l
      high j (no l) k =
          let e : j ≡ i = omega arith in
          rw e (get_or-set_same once (2 * i + 1) (i / 256) 0 (omega (arith, room, length-set blocks (2 * i) (i % 256))))

  pub numbering_ends : n ≤ i → Numbered n blocks
  numbering_ends h = let e : i ≡ n = omega (arith, N.within) in rw e at N.done
