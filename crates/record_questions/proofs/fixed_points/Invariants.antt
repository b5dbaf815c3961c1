-- `record_questions::fixed_points` meets its contract.
-- Assumes nothing.
use lib.ListN.{get_or}
use Rattle.record_questions.proofs.Counting.{Counting}
use Rattle.record_questions.proofs.fixed_points.Given as goal

abbrev pub invariant-loop-i : goal.invariant-loop-i
invariant-loop-i l = Counting (λ j. get_or l.list j 0) l.c l.i
