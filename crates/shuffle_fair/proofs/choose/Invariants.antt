-- `shuffle_fair::choose` meets its contract.
-- Assumes nothing.
use Prim.Native.Nat.{◌-◌}
use lib.ListN.{length}
use Rattle.shuffle_fair.proofs.Choosing.{Choosing}
use Rattle.shuffle_fair.proofs.choose.Given as goal

abbrev pub invariant-loop-i : goal.invariant-loop-i
invariant-loop-i l = Choosing l.n l.words l.initial.kept l.kept l.i l.used

abbrev pub decreases-loop-i : goal.decreases-loop-i
decreases-loop-i l = length l.words - l.used
