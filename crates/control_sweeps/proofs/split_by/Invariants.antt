-- The first i values have kept their pairs and their trails have gained; those still to come are as they were.
-- Assumes nothing.
use mathlib.Core.Path.{◌≡◌}
use Prim.Native.Nat.{◌+◌, ◌*◌}
use lib.ListN.{get_or}
use Rattle.steps.specs.Steps.{digit}
use Rattle.steps.specs.Sweeps.{each}
use Rattle.wirings.specs.Nets.{wiring_of}
use Rattle.control_sweeps.proofs.split_by.Given as goal

abbrev pub invariant-loop-i : goal.invariant-loop-i
invariant-loop-i l =
    (l.vals ≡ each (λ j. l.o + j * l.apart) l.i (λ j v. ((wiring_of l.t).dec l.k v).0) l.initial.vals) ×
    (l.trails ≡ each (λ j. l.o + j * l.apart) l.i (λ j t'. t' * 2 + digit ((wiring_of l.t).dec l.k (get_or l.initial.vals (l.o + j * l.apart) 0)).1) l.initial.trails)
