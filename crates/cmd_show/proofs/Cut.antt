-- The program reads at most 1,321 bytes of a sheet, and prints what the whole would give.
-- Assumes nothing.
use mathlib.Core.Path.{◌≡◌}
use mathlib.Core.List.{List}
use Prim.Native.Nat.{ℕ}
use lib.ListN.{take}
use Rattle.rows.proofs.Reach.{enough}
use Rattle.sheets.specs.Sheet.{sheet_room}
use Rattle.sheets.proofs.Cut.{read_cut}
use Rattle.cmd_show.specs.Show.{show_call}

pub show_cut : (sheet out : List ℕ) → show_call (take sheet_room sheet) out ≡ show_call sheet out
unfolding show_call
show_cut sheet out =
    enough (λ bytes. show_call bytes out) sheet_room sheet (λ long.
    let C = read_cut sheet 9217 long in
    rw (C.first, C.second))
