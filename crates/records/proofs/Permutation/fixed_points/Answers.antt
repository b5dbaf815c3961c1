-- `records::Permutation::fixed_points` meets its contract.
-- Assumes nothing.
use mathlib.Core.Path.{◌∙◌}
use Rattle.records.proofs.Replies.{asking_back}
use Rattle.records.proofs.Permutation.fixed_points.Goals as goal

pub returns : goal.returns
returns c = asking_back _ (c.into.ensures ∙ c.fixed_points_of.ensures)
