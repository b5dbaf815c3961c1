-- `records::Permutation::from_list` meets its contract.
-- Assumes nothing.
use native.Mathlib.Omega.{arith}
use Rattle.records.proofs.Replies.{empty_record, made_reply, refused_reply}
use Rattle.records.proofs.Permutation.from_list.Goals as goal

pub returns-in-Ok : goal.returns-in-Ok
returns-in-Ok c = rw (c.made.ensures, c.list_record.ensures) (made_reply _ _ _ (omega arith, (omega arith, tt)) _ c.in-Ok.ensures)

pub returns-in-Err : goal.returns-in-Err
returns-in-Err c = rw (c.refused.ensures, c.identity_record.ensures, empty_record) (refused_reply _ _ _ _ c.in-Err.ensures)
