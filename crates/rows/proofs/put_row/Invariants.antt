-- `rows::put_row` meets its contract.
-- Assumes nothing.
use Rattle.numbers.specs.Numbers.{sevens}
use Rattle.rows.proofs.Writing.{Entering}
use Rattle.rows.proofs.put_row.Given as goal

abbrev pub invariant-loop-value : goal.invariant-loop-value
invariant-loop-value l = Entering sevens l.row l.initial.buf l.start l.buf l.at l.value-index
