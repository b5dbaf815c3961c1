-- `records::Permutation::inverse` meets its contract.
-- Assumes nothing.
use Rattle.records.proofs.Replies.{record_numbered, made_reply, refused_reply}
use Rattle.records.proofs.Permutation.inverse.Goals as goal

pub returns-in-Ok : goal.returns-in-Ok
returns-in-Ok c = rw (c.made.ensures, c.inverted_record.ensures) (made_reply _ _ _ (record_numbered c.args.self) _ c.in-Ok.ensures)

pub returns-in-Err : goal.returns-in-Err
returns-in-Err c = rw c.refused.ensures (refused_reply _ _ _ _ c.in-Err.ensures)
