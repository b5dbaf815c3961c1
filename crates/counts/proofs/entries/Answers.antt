-- `counts::entries` meets its contract: the recursion gives the count, and none is larger than that of 1,024 places.
-- Assumes nothing.
use native.Mathlib.Omega.{arith}
use Rattle.counts.proofs.Most.{entries_few}
use Rattle.counts.proofs.entries.Goals as goal

pub returns : goal.returns
returns c = (omega arith, omega (arith, entries_few c.args.n (omega arith)))
