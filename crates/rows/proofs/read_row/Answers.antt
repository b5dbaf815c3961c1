-- `rows::read_row` meets its contract.
-- Assumes nothing.
use native.Mathlib.Omega.{arith}
use lib.Seq.{length-take-le}
use Rattle.std.proofs.lemmas.Result.{err_from_is_err_and}
use Rattle.numbers.proofs.Numbers.{reads, refused, value_small}
use Rattle.rows.proofs.Reading.{reading_starts, reading_more, reading_stops, reading_ends}
use Rattle.rows.proofs.read_row.Goals as goal

pub loop-value-init : goal.loop-value-init
loop-value-init c = reading_starts _ _ _ _ _ (length-take-le _ _ c.requires)

pub returns-in_err-number : goal.returns-in_err-number
returns-in_err-number c =
    let p = err_from_is_err_and c.from_residual.result c.from_residual.ensures.1 in
    rw (p.1, p.2)
    (reading_stops _ _ _ _ _ _ _ _ c.loop-value.invariant _ (omega arith) (refused _ _ _ c.in_err-number.ensures) _)

pub overflow_cast-value : goal.overflow_cast-value
overflow_cast-value c =
    omega (arith, (reads _ _ _ c.in_ok-number.ensures).value, value_small c.args.input.now c.loop-value.at)

pub loop-value-preserved : goal.loop-value-preserved
loop-value-preserved c =
    reading_more _ _ _ _ _ _ _ _ c.loop-value.invariant _ _ (omega arith) (reads _ _ _ c.in_ok-number.ensures)

pub returns : goal.returns
returns c = reading_ends _ _ _ _ _ _ _ _ c.loop-value.invariant (omega arith) _
