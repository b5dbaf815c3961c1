-- `cmd_list::put_orders` meets its contract.
-- Assumes nothing.
use Rattle.cmd_list.proofs.Printing.{Printing}
use Rattle.cmd_list.proofs.put_orders.Given as goal

abbrev pub invariant-loop-r : goal.invariant-loop-r
invariant-loop-r l = Printing l.n l.initial.out l.out l.at l.r
