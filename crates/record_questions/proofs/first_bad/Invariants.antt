-- `record_questions::first_bad` meets its contract.
-- Assumes nothing.
use Rattle.permutation.proofs.Sweeps.{Sweeping}
use Rattle.record_questions.specs.Questions.{good_in_record}
use Rattle.record_questions.proofs.first_bad.Given as goal

abbrev pub invariant-loop-i : goal.invariant-loop-i
invariant-loop-i l = Sweeping (good_in_record l.n l.e) 1024 l.low l.i
