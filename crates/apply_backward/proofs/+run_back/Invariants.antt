-- The proof of the cycle of calls {run_back}. The measure is the number of places.
-- Assumes nothing.
use Rattle.apply_backward.proofs.+run_back.Given as goal

abbrev pub decreases-run_back : goal.decreases-run_back
decreases-run_back l = l.m
