-- The proof of the cycle of calls {entries_by_halves}. The measure is n. No sum exceeds E n, and E n is small.
-- Assumes nothing.
use mathlib.Core.Path.{◌≡◌, sym}
use native.Mathlib.Omega.{arith}
use Rattle.counts.specs.Counts.{E}
use Rattle.counts.proofs.Rule.{up_ceil, E_none, E_two, E_more}
use Rattle.counts.proofs.Bounds.{E_small}
use Prim.Native.Nat.{ℕ, ◌+◌, ◌-◌, ◌*◌, ◌/◌, ◌%◌, ◌≤◌, min}
use Rattle.counts.proofs.+entries_by_halves.Goals as goal

-- the rule, with the top's places as the code has them
halves : (n k : ℕ) → k ≡ n / 2 + min 1 (n % 2) → 3 ≤ n → E n ≡ 3 * k + 3 + E k + E (n - k)
halves n k e h = rw (up_ceil n k e) (E_more n h)

pub returns-then-n-lt2 : goal.returns-then-n-lt2
returns-then-n-lt2 t c = sym (E_none c.args.n c.if-n-lt2.true)

pub returns-then-n-eq2 : goal.returns-then-n-eq2
returns-then-n-eq2 t c = rw c.if-n-eq2.true (omega (arith, E_two))

-- stands before the sums, since it says what is wrong with a rule that is not that of E
pub returns : goal.returns
returns t c = let n = c.args.n in
    omega (arith, halves n c.div_ceil-pairs.result c.div_ceil-pairs.ensures (omega arith), c.from.ensures)

pub overflow_add-result-2 : goal.overflow_add-result-2
overflow_add-result-2 t c = let n = c.args.n in
    omega (arith, halves n c.div_ceil-pairs.result c.div_ceil-pairs.ensures (omega arith), c.from.ensures, E_small n (omega arith))

pub overflow_add-result-3 : goal.overflow_add-result-3
overflow_add-result-3 t c = let n = c.args.n in
    omega (arith, halves n c.div_ceil-pairs.result c.div_ceil-pairs.ensures (omega arith), c.from.ensures, E_small n (omega arith))
