-- The loop over a layer's switches, first to last. Its invariant: the first i have acted and are logged.
-- Assumes nothing.
use mathlib.Core.Path.{◌≡◌}
use lib.ListN.{length}
use Rattle.apply_layers.proofs.Packing.{at_switch}
use Rattle.apply_layers.proofs.Runs.{First}
use Rattle.apply_layers.proofs.ForwardDirection.in_parts.Given as goal

abbrev pub invariant-loop-i : goal.invariant-loop-i
invariant-loop-i l =
    ((length l.blocks ≡ length l.initial.blocks) × (length l.log ≡ length l.initial.log)) × (l.x ≡ at_switch l.step l.gap l.o l.e l.i)
    × First l.width l.step l.gap l.o l.bits l.e l.e l.initial.blocks l.initial.log l.i l.blocks l.log
