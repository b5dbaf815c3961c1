-- `capi_values::give` meets its contract.
-- Assumes nothing.
use Rattle.capi_values.proofs.Crossing.{lent_refused, lent-accepted}
use Rattle.capi_values.proofs.give.Goals as goal

pub returns-then-reply-ne0 : goal.returns-then-reply-ne0
returns-then-reply-ne0 c = lent_refused _ _ c.from.ensures c.if-reply-ne0.true

pub returns : goal.returns
returns c = lent-accepted _ _ c.from-2.ensures c.if-reply-ne0.false c.put.ensures
