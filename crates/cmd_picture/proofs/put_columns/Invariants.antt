-- `cmd_picture::put_columns` meets its contract.
-- Assumes nothing.
use Rattle.cmd_text.proofs.Lines.{Laying}
use Rattle.cmd_picture.specs.Inner.{columns_in}
use Rattle.cmd_picture.proofs.put_columns.Given as goal

abbrev pub invariant-loop-e : goal.invariant-loop-e
invariant-loop-e l = Laying (columns_in l.log l.bits l.place) l.initial.out l.at l.out l.e
