-- `cmd_list_line::put_entries` meets its contract.
-- Assumes nothing.
use Rattle.cmd_list_line.proofs.Putting.{Parting}
use Rattle.cmd_list_line.proofs.put_entries.Given as goal

abbrev pub invariant-loop-entry : goal.invariant-loop-entry
invariant-loop-entry l = Parting l.rest l.initial.out l.initial.end l.out l.end l.entry-index
