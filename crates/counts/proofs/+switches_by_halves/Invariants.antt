-- The proof of the cycle of calls {switches_by_halves}. The measure is n. No sum exceeds W n, and W n is small.
-- Assumes nothing.
use Rattle.counts.proofs.+switches_by_halves.Given as goal

abbrev pub decreases-switches_by_halves : goal.decreases-switches_by_halves
decreases-switches_by_halves l = l.n
