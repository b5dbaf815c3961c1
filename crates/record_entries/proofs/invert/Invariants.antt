-- `record_entries::invert` meets its contract.
-- Assumes nothing.
use lib.ListN.{get_or, take}
use Rattle.record_entries.proofs.Fillings.{Filling}
use Rattle.record_entries.proofs.invert.Given as goal

abbrev pub invariant-loop-i : goal.invariant-loop-i
invariant-loop-i l = Filling (λ j. get_or (take l.n l.fn.f) j 0) (λ j. j) l.n l.back l.i
