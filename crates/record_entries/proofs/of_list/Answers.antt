-- `record_entries::of_list` meets its contract.
-- Assumes nothing.
use mathlib.Core.Path.{refl}
use Rattle.record_entries.proofs.Entries.{over_zeros}
use Rattle.record_entries.proofs.of_list.Goals as goal

pub returns : goal.returns
returns c = let es = c.args.list.now in rw (c.copy_from_slice.ensures.after, c.fixed_points.ensures, over_zeros _ es refl)
