-- `counts::switches` meets its contract: the table is held against the rule by one test, which antt computes, and no count is
-- larger than that of 1,024 places.
-- Assumes nothing.
use mathlib.Core.Path.{refl}
use borrow.Author.Rules.{rules}
use Rattle.counts.proofs.Table.{holds}
use Rattle.counts.proofs.Most.{switches_few}
use Rattle.counts.proofs.switches.Goals as goal

pub returns : goal.returns
returns c = let count = holds c.read_table.ensures refl (search rules) in
    (count, rw count (switches_few c.args.n (search rules)))
