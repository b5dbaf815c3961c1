-- `capi_values::record_of` meets its contract.
-- Assumes nothing.
use native.Mathlib.Omega.{arith}
use mathlib.Core.Path.{◌≡◌}
use lib.ListN.{get_or}
use Rattle.permutation.specs.Permutations.{tabulate}
use Rattle.permutation.proofs.Tables.{is_tabulate}
use Rattle.capi_values.specs.Crossing.{record_in}
use Rattle.capi_values.proofs.record_of.Goals as goal

pub returns : goal.returns
unfolding record_in
returns c = let es = c.args.lent.now in
    let filled : c.loop-i.entry-items ≡ tabulate (λ j. get_or es j 0) 1024 =
    is_tabulate (λ j. get_or es j 0) 1024 c.loop-i.entry-items (omega arith) (λ j l. c.loop-i.invariant j (omega arith)) in
    rw filled
