-- `sheet_writer::gather` meets its contract.
-- Assumes nothing.
use mathlib.Core.Path.{◌≡◌}
use lib.ListN.{take}
use Rattle.sheets.specs.Sheet.{fourteens}
use Rattle.sheet_writer.proofs.gather.Given as goal

abbrev pub invariant-loop-j : goal.invariant-loop-j
invariant-loop-j l = take l.j l.row ≡ fourteens l.j l.bits
