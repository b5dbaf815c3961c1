-- What is told of a failure fits its room.
-- Assumes nothing.
use mathlib.Core.List.{List, ◌++◌}
use Prim.Native.Nat.{ℕ, ◌+◌, ◌≤◌}
use native.Mathlib.Omega.{arith}
use lib.ListN.{length, length-append}
use Rattle.cmd_text.specs.Text.{text}
use Rattle.cmd_usage.specs.declared.Program.{Program}
use Rattle.cmd_usage.specs.declared.Program.TheVariants.{Draw, Sheet, Mix, Unmix, Show, Settings, Chart, List as Listing}
use Rattle.cmd_usage.specs.Programs.{name_of, subject_of}

name_few : (program : Program) → length (name_of program) ≤ 8
name_few Draw = omega arith
name_few Sheet = omega arith
name_few Mix = omega arith
name_few Unmix = omega arith
name_few Show = omega arith
name_few Settings = omega arith
name_few Chart = omega arith
name_few Listing = omega arith

pub subject_room : (program : Program) (what : List ℕ) {room : ℕ} → 10 + length what ≤ room → 0 + length (subject_of program what) ≤ room
subject_room program what h = omega (arith, length-append (name_of program) (text ": " ++ what), name_few program)
