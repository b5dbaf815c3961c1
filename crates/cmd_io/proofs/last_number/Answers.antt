-- `cmd_io::last_number` meets its contract.
-- Assumes nothing.
use mathlib.Core.Path.{refl}
use mathlib.Core.List.{[]}
use Rattle.cmd_arguments.specs.Decimal.{decimal_in}
use Rattle.cmd_io.proofs.last_number.Goals as goal

pub returns-then-misused : goal.returns-then-misused
unfolding decimal_in
returns-then-misused c = record { text = []; value = refl }
