-- `setting_order::setting_of_order_in` meets its contract: the local log has room for the most entries.
-- Assumes nothing.
use Prim.Native.Nat.{ℕ, ◌*◌}
use native.Mathlib.Omega.{arith}
use lib.ListN.{length, length-replicate}
use Rattle.network.specs.Log.{entry_words}
use Rattle.counts.proofs.Most.{switches_few, entries_few}
use Rattle.setting_order.proofs.setting_of_order_in.Goals as goal

pub set_order_in-requires : goal.set_order_in-requires
set_order_in-requires c = let n = length c.args.order.now in (
  c.requires.0,
  c.requires.1,
  c.requires.2,
  omega (arith, c.requires.2, switches_few n c.requires.0),
  omega (arith, entries_few n c.requires.0, length-replicate {A = ℕ} (entry_words * 16381) 0),
)
