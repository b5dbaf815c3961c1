-- `records::identity_record` meets its contract.
-- Assumes nothing.
use mathlib.Core.Path.{sym, ◌∙◌}
use Rattle.permutation.proofs.Laws.{identity-length}
use Rattle.permutation.proofs.Counts.{identity_fixed}
use Rattle.records.proofs.Records.{is_record_of}
use Rattle.records.proofs.identity_record.Goals as goal

pub returns : goal.returns
returns c = c.build.ensures ∙ is_record_of _ _ (identity-length _) c.identity.ensures (sym (identity_fixed _))
