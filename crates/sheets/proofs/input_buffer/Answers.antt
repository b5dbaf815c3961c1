-- `sheets::input_buffer` meets its contract.
-- Assumes nothing.
use mathlib.Core.Path.{refl, sym}
use Prim.Native.Nat.{ℕ}
use lib.ListN.{length-replicate}
use Rattle.sheets.specs.Sheet.{sheet_room}
use Rattle.sheets.proofs.input_buffer.Goals as goal

pub returns : goal.returns
returns c = (sym (length-replicate {A = ℕ} sheet_room 0), refl)
