-- The proof of the cycle of calls {entries_by_halves}. The measure is n. No sum exceeds E n, and E n is small.
-- Assumes nothing.
use Rattle.counts.proofs.+entries_by_halves.Given as goal

abbrev pub decreases-entries_by_halves : goal.decreases-entries_by_halves
decreases-entries_by_halves l = l.n
