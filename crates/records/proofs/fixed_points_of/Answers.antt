-- `records::fixed_points_of` meets its contract.
-- Assumes nothing.
use Rattle.records.proofs.Replies.{asking_large, asking_given}
use Rattle.records.proofs.fixed_points_of.Goals as goal

pub returns-then-n-gt-MOST_PLACES : goal.returns-then-n-gt-MOST_PLACES
returns-then-n-gt-MOST_PLACES c = rw c.of.ensures (asking_large _ _ c.if-n-gt-MOST_PLACES.true)

pub returns : goal.returns
returns c = asking_given _ _ c.if-n-gt-MOST_PLACES.false
