-- `rows::put_row` meets its contract.
-- Assumes nothing.
use borrow.Author.Rules.{rules}
use Rattle.numbers.proofs.Numbers.{bytes_few}
use Rattle.rows.proofs.Writing.{entering_starts, entering_more}
use Rattle.rows.proofs.put_row.Goals as goal

pub loop-value-init : goal.loop-value-init
loop-value-init c = entering_starts _ _ _ _

pub loop-value-preserved : goal.loop-value-preserved
loop-value-preserved c = entering_more _ _ _ _ c.loop-value.invariant (bytes_few _).1 c.loop-value-test.true c.requires.0
    c.from.ensures (search rules) c.put_number-at.ensures
