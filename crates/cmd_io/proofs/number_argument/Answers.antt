-- `cmd_io::number_argument` meets its contract.
-- Assumes nothing.
use mathlib.Core.Path.{refl}
use mathlib.Core.List.{[]}
use Rattle.cmd_arguments.specs.Decimal.{decimal_in}
use Rattle.cmd_io.proofs.number_argument.Goals as goal

pub returns-in-Err : goal.returns-in-Err
unfolding decimal_in
returns-in-Err c = record { text = []; value = refl }
