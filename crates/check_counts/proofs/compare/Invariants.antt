-- `check_counts::compare` is safe: there is one count for each number of places so far.
-- Assumes nothing.
use Rattle.std.proofs.Common.{◌≡◌, vec_len}
use Rattle.check_counts.proofs.compare.Given as goal

abbrev pub invariant-loop-n : goal.invariant-loop-n
invariant-loop-n g l = vec_len l.filled ≡ l.n
