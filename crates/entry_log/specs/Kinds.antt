-- The kinds of entries by 01's numbers.
-- Assumes nothing: this is a definition.
use Rattle.std.specs.Prelude.{ℕ}
use Rattle.entry_log.specs.declared.Kind.{Kind}
use Rattle.entry_log.specs.declared.Kind.TheVariants.{Value, Associate, Settle, InputSwitches, Split, OutputSwitches, Exchange}

abbrev pub number_of : Kind → ℕ
number_of Value = 1
number_of Associate = 2
number_of Settle = 3
number_of InputSwitches = 4
number_of Split = 5
number_of OutputSwitches = 6
number_of Exchange = 7
