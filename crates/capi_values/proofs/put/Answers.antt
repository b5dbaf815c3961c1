-- `capi_values::put` meets its contract.
-- Assumes nothing.
use native.Mathlib.Omega.{arith}
use lib.ListN.{get_or}
use Rattle.permutation.proofs.Tables.{is_tabulate}
use Rattle.capi_values.proofs.put.Goals as goal

pub returns : goal.returns
returns c = let a = c.args in
    is_tabulate (λ j. get_or a.p.entries j 0) _ c.loop-i.lent (omega arith) (λ j l. c.loop-i.invariant j (omega arith))
