-- `records::list_record` meets its contract.
-- Assumes nothing.
use mathlib.Core.Path.{refl, ◌∙◌}
use Rattle.records.proofs.Records.{is_record_filled}
use Rattle.records.proofs.list_record.Goals as goal

pub returns : goal.returns
returns c = c.build.ensures ∙ is_record_filled _ _ refl c.of_list-made.ensures
