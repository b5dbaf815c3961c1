-- The first i bits are written.
-- Assumes nothing.
use mathlib.Core.Path.{◌≡◌}
use Prim.Native.Nat.{◌+◌, ◌*◌, ◌%◌}
use lib.ListN.{get_or}
use Rattle.steps.specs.Sweeps.{each}
use Rattle.control_sweeps.proofs.last_by.Given as goal

abbrev pub invariant-loop-i : goal.invariant-loop-i
invariant-loop-i l = l.bits ≡ each (λ j. l.b + j) l.i (λ j x. get_or l.trails (l.o + j * l.step) 0 % 2) l.initial.bits
