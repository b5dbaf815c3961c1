-- The loop over a layer's switches, last to first. Its invariant: whoever runs what is left has run the whole layer.
-- Assumes nothing.
use mathlib.Core.Path.{◌≡◌}
use Prim.Native.Nat.{◌+◌, ◌≤◌}
use lib.ListN.{length}
use Rattle.apply_layers.proofs.Packing.{at_switch}
use Rattle.apply_layers.proofs.Runs.{Leads}
use Rattle.apply_layers.proofs.BackwardDirection.in_parts.Given as goal

abbrev pub invariant-loop-i : goal.invariant-loop-i
invariant-loop-i l =
    ((l.i ≤ l.c) × ((l.to + l.i ≡ l.e + l.c) × ((length l.blocks ≡ length l.initial.blocks) × (length l.log ≡ length l.initial.log)))) × (l.x ≡ at_switch l.step l.gap l.o l.first l.i)
    × Leads l.width l.step l.gap l.o l.bits l.first l.e l.initial.blocks l.initial.log l.c l.i l.to l.blocks l.log
