-- `tally::words` meets its contract.
-- Assumes nothing.
use Rattle.std.proofs.Common.{refl, arith}
use Rattle.tally.specs.Tallies.{after}
use Rattle.tally.proofs.First.{first_none, first_more, after_more}
use Rattle.tally.proofs.words.Goals as goal

pub loop-word-init : goal.loop-word-init
unfolding after
loop-word-init c = (refl, first_none _)

pub loop-word-preserved : goal.loop-word-preserved
loop-word-preserved c = let l = c.loop-word in
    let z = after_more _ l.word-index _ _ l.invariant.0 c.next-x.ensures in
    (z, first_more _ _ _ _ (omega arith) z l.invariant.1)
