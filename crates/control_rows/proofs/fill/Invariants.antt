-- The loop gathers the values place by place.
-- Assumes nothing.
use Prim.Native.Nat.{◌+◌, ◌*◌}
use Rattle.control_rows.specs.Rows.{Gathered}
use Rattle.control_rows.proofs.fill.Given as goal

abbrev pub invariant-loop-i : goal.invariant-loop-i
invariant-loop-i l = Gathered (λ j. l.o + j * l.apart) l.i l.xs l.row
