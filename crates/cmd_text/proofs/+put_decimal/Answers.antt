-- `cmd_text::put_decimal` meets its contract.
-- Assumes nothing.
use native.Mathlib.Omega.{arith}
use Rattle.cmd_text.proofs.Lines.{put_digit, put_last}
use Rattle.cmd_text.proofs.Decimal.{decimal-one, longer}
use mathlib.Core.Path.{ap}
use lib.ListN.{length}
use Rattle.cmd_text.proofs.+put_decimal.Goals as goal

pub bounds-out-at : goal.bounds-out-at
bounds-out-at t c = omega (arith, ap length (decimal-one _ c.if-v-lt10.true), c.requires)

pub returns-then-v-lt10 : goal.returns-then-v-lt10
returns-then-v-lt10 t c = put_digit _ _ _ c.if-v-lt10.true (omega (arith, ap length (decimal-one _ c.if-v-lt10.true), c.requires))

pub put_decimal-end-requires : goal.put_decimal-end-requires
put_decimal-end-requires t c = omega (arith, longer _ c.if-v-lt10.false, c.requires)

pub bounds-out-end : goal.bounds-out-end
bounds-out-end t c = omega (arith, longer _ c.if-v-lt10.false, c.requires, c.put_decimal-end.ensures.place, c.put_decimal-end.auto.out)

pub overflow_add-result-2 : goal.overflow_add-result-2
overflow_add-result-2 t c = omega (arith, longer _ c.if-v-lt10.false, c.requires, c.put_decimal-end.ensures.place)

pub returns : goal.returns
returns t c = put_last _ c.if-v-lt10.false c.requires c.put_decimal-end.ensures
