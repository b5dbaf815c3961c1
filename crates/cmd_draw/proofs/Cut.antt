-- The program reads as many bytes as `bytes_for` says, and draws from them what the whole input would give.
-- Assumes nothing.
use mathlib.Core.Path.{◌≡◌, ap, ◌∙◌}
use mathlib.Core.List.{List}
use Prim.Native.Nat.{ℕ, ◌+◌, ◌*◌, ◌/◌, ◌<◌, min}
use native.Mathlib.Omega.{arith}
use lib.ListN.{length, take, length-take}
use lib.Seq.{get_or-take}
use Rattle.permutation.specs.Permutations.{tabulate}
use Rattle.permutation.proofs.Tables.{length-tabulate, tabulate-at, is_tabulate}
use Rattle.cmd_draw.specs.Draw.{word_at, bytes_for, draw_from, draw_call}

-- a word of the first m bytes
word_cut : (bytes : List ℕ) (m i : ℕ) → 4 * i + 3 < m → word_at (take m bytes) i ≡ word_at bytes i
word_cut bytes m i h =
    rw (
      get_or-take m bytes (4 * i) 0 (omega arith),
      get_or-take m bytes (4 * i + 1) 0 (omega arith),
      get_or-take m bytes (4 * i + 2) 0 (omega arith),
      get_or-take m bytes (4 * i + 3) 0 h,
    )

-- the whole words of at most m bytes
words-cut : (bytes : List ℕ) (m : ℕ)
    → tabulate (word_at (take m bytes)) (min m (length (take m bytes)) / 4) ≡ tabulate (word_at bytes) (min m (length bytes) / 4)
words-cut bytes m =
    let same : min m (length (take m bytes)) ≡ min m (length bytes) = omega (arith, length-take m bytes) in
    let k = min m (length bytes) / 4 in
    rw same
    (is_tabulate (word_at bytes) k (tabulate (word_at (take m bytes)) k) (length-tabulate (word_at (take m bytes)) k)
    (λ i l. tabulate-at (word_at (take m bytes)) k i l ∙ word_cut bytes m i (omega arith)))

pub draw_cut : (n : ℕ) (bytes out : List ℕ) → draw_call n (take (bytes_for n) bytes) out ≡ draw_call n bytes out
unfolding draw_call
draw_cut n bytes out = ap (λ words. draw_from n words out) (words-cut bytes (bytes_for n))
