-- The first i entries have made way; an entry still to come is as it was.
-- Assumes nothing.
use mathlib.Core.List.{map}
use lib.ListN.{length}
use Rattle.answers.proofs.Putting.{Over}
use Rattle.orders_listed.specs.Ranks.{past}
use Rattle.orders_listed.proofs.make_way.Given as goal

abbrev pub invariant-loop-x : goal.invariant-loop-x
invariant-loop-x l = Over (map (past l.d) l.initial.order) l.initial.order l.order (length l.initial.order) l.x-index
