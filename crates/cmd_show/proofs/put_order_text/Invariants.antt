-- `cmd_show::put_order_text` meets its contract.
-- Assumes nothing.
use Rattle.cmd_show.proofs.Spacing.{Spacing}
use Rattle.cmd_show.proofs.put_order_text.Given as goal

abbrev pub invariant-loop-entry : goal.invariant-loop-entry
invariant-loop-entry l = Spacing l.order l.initial.out l.at l.out l.end l.entry-index
