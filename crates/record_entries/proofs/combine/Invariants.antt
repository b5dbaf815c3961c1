-- `record_entries::combine` meets its contract.
-- Assumes nothing.
use lib.ListN.{get_or, take}
use Rattle.record_entries.proofs.Fillings.{Filling}
use Rattle.record_entries.proofs.combine.Given as goal

abbrev pub invariant-loop-i : goal.invariant-loop-i
invariant-loop-i l = Filling (λ j. j) (λ j. get_or (take l.n l.fn.second) (get_or (take l.n l.fn.first) j 0) 0) l.n l.entries l.i
