-- `shuffle::number_places` meets its contract.
-- Assumes nothing.
use native.Mathlib.Omega.{arith}
use lib.ListN.{length}
use Rattle.permutation.proofs.Tables.{is_tabulate}
use Rattle.shuffle.proofs.number_places.Goals as goal

pub returns : goal.returns
returns c = is_tabulate (λ j. j) (length c.args.out.now) c.loop-i.out c.loop-i.auto.out
    (λ j l. c.loop-i.invariant j (omega arith))
