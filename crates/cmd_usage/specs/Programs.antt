-- The programs: their names, how each is called, and what failed in one.
-- Assumes nothing: these are definitions.
use Rattle.std.specs.Prelude.{List, ◌++◌, ℕ}
use Rattle.cmd_text.specs.Text.{text}
use Rattle.cmd_usage.specs.declared.Program.{Program}
use Rattle.cmd_usage.specs.declared.Program.TheVariants.{Draw, Sheet, Mix, Unmix, Show, Settings, Chart, List as Listing}

abbrev pub name_of : Program → List ℕ
name_of Draw = text "draw"
name_of Sheet = text "sheet"
name_of Mix = text "mix"
name_of Unmix = text "unmix"
name_of Show = text "show"
name_of Settings = text "settings"
name_of Chart = text "chart"
name_of Listing = text "list"

abbrev pub usage_of : Program → List ℕ
usage_of Draw = text "usage: draw N < RANDOM > ORDER\n"
usage_of Sheet = text "usage: sheet < ORDER > SHEET\n"
usage_of Mix = text "usage: mix SHEET WIDTH < BLOCKS > MIXED\n"
usage_of Unmix = text "usage: unmix SHEET WIDTH < MIXED > BLOCKS\n"
usage_of Show = text "usage: show SHEET\n"
usage_of Settings = text "usage: settings < ORDER\n"
usage_of Chart = text "usage: chart < BLOCKS\n"
usage_of Listing = text "usage: list < LENGTH\n"

-- what stands before the system's own words: the program and what it could not read or write
abbrev pub subject_of : Program → List ℕ → List ℕ
subject_of program what = name_of program ++ (text ": " ++ what)
