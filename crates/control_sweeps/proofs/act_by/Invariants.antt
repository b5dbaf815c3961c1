-- The first i switches have acted on both tables.
-- Assumes nothing.
use mathlib.Core.Path.{◌≡◌}
use Rattle.steps.specs.Sweeps.{act}
use Rattle.wirings.specs.Nets.{stepped}
use Rattle.control_sweeps.proofs.act_by.Given as goal

abbrev pub invariant-loop-i : goal.invariant-loop-i
invariant-loop-i l = (l.vals ≡ act (stepped l.o l.step l.gap) l.bits l.b l.i l.initial.vals)
    × (l.trails ≡ act (stepped l.o l.step l.gap) l.bits l.b l.i l.initial.trails)
