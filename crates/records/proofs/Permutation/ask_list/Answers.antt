-- `records::Permutation::ask_list` meets its contract.
-- Assumes nothing.
use mathlib.Core.Path.{sym, ap}
use Rattle.answers.specs.Outcomes.{answer_of}
use Rattle.records.proofs.Replies.{list_passes}
use Rattle.records.proofs.Permutation.ask_list.Goals as goal

pub returns : goal.returns
returns c =
    sym (ap (λ v. answer_of v 0) (list_passes c.args.list.now c.if-list-gt-MOST_PLACES.false c.first_bad_entry-low.ensures c.if-low-list.false))
