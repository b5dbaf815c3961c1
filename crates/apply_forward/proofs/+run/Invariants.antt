-- The proof of the cycle of calls {run}. The measure is the number of places.
-- Assumes nothing.
use Rattle.apply_forward.proofs.+run.Given as goal

abbrev pub decreases-run : goal.decreases-run
decreases-run l = l.m
