-- `sheet_reader::write_bits` meets its contract.
-- Assumes nothing.
use mathlib.Core.Path.{◌≡◌}
use lib.ListN.{take}
use Rattle.sheets.specs.Reading.{bits_in}
use Rattle.sheet_reader.proofs.write_bits.Given as goal

abbrev pub invariant-loop-i : goal.invariant-loop-i
invariant-loop-i l = take l.i l.bit-items ≡ take l.i (bits_in l.values)
