-- The proof of the cycle of calls {switches_by_halves}. The measure is n. No sum exceeds W n, and W n is small.
-- Assumes nothing.
use mathlib.Core.Path.{◌≡◌, sym}
use native.Mathlib.Omega.{arith}
use Rattle.counts.specs.Counts.{W}
use Rattle.counts.proofs.Rule.{up_ceil, W_none, W_more}
use Rattle.counts.proofs.Bounds.{W_small}
use Prim.Native.Nat.{ℕ, ◌+◌, ◌-◌, ◌/◌, ◌%◌, ◌≤◌, min}
use Rattle.counts.proofs.+switches_by_halves.Goals as goal

-- the rule, with the top's places as the code has them
halves : (n k : ℕ) → k ≡ n / 2 + min 1 (n % 2) → 2 ≤ n → W n ≡ n - 1 + W k + W (n - k)
halves n k e h = rw (up_ceil n k e) (W_more n h)

pub returns-then-n-lt2 : goal.returns-then-n-lt2
returns-then-n-lt2 t c = sym (W_none c.args.n c.if-n-lt2.true)

pub overflow_add-result : goal.overflow_add-result
overflow_add-result t c = let n = c.args.n in
    omega (arith, halves n c.div_ceil-k.result c.div_ceil-k.ensures (omega arith), c.from.ensures, W_small n (omega arith))

pub overflow_add-result-2 : goal.overflow_add-result-2
overflow_add-result-2 t c = let n = c.args.n in
    omega (arith, halves n c.div_ceil-k.result c.div_ceil-k.ensures (omega arith), c.from.ensures, W_small n (omega arith))

pub returns : goal.returns
returns t c = let n = c.args.n in
    omega (arith, halves n c.div_ceil-k.result c.div_ceil-k.ensures (omega arith), c.from.ensures)
