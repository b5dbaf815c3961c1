-- The first i values are again what they were and their trails have lost; those still to come are as they were.
-- Assumes nothing.
use mathlib.Core.Path.{◌≡◌}
use Prim.Native.Nat.{◌+◌, ◌*◌, ◌/◌, ◌%◌}
use lib.Dec.{eqb}
use lib.ListN.{get_or}
use Rattle.steps.specs.Sweeps.{each}
use Rattle.wirings.specs.Nets.{wiring_of}
use Rattle.control_sweeps.proofs.join_by.Given as goal

abbrev pub invariant-loop-i : goal.invariant-loop-i
invariant-loop-i l =
    (l.vals ≡ each (λ j. l.o + j * l.apart) l.i (λ j v. (wiring_of l.t).enc l.k (v, eqb (get_or l.initial.trails (l.o + j * l.apart) 0 % 2) 1)) l.initial.vals) ×
    (l.trails ≡ each (λ j. l.o + j * l.apart) l.i (λ j t'. t' / 2) l.initial.trails)
