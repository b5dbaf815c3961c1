-- `rows::read_row` meets its contract.
-- Assumes nothing.
use Rattle.numbers.specs.Numbers.{sevens}
use Rattle.rows.proofs.Reading.{Reading}
use Rattle.rows.proofs.read_row.Given as goal

abbrev pub invariant-loop-value : goal.invariant-loop-value
invariant-loop-value l = Reading sevens l.input l.start l.k l.value-items l.last l.at l.value-index
