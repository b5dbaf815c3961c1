-- `capi::lomuveran_permutation_fixed_points` meets its contract.
-- Assumes nothing.
use mathlib.Core.Path.{◌∙◌}
use Rattle.capi_values.specs.Crossing.{record_in}
use Rattle.records.specs.Records.{replied}
use Rattle.capi.proofs.lomuveran_permutation_fixed_points.Goals as goal

pub returns : goal.returns
unfolding replied record_in
returns c = c.into.ensures ∙ c.fixed_points_of.ensures
