-- The local arrays are 0, and their lent parts have the length of the order.
-- Assumes nothing.
use mathlib.Core.Path.{ap, ◌∙◌}
use Prim.Native.Nat.{ℕ}
use lib.ListN.{length}
use lib.ListN.{length-replicate}
use Rattle.setter.proofs.Start.{took}
use Rattle.setter.proofs.set_order_in.Goals as goal

pub set_table-requires : goal.set_table-requires
set_table-requires c = let n = length c.args.order.now in (
  c.requires.0,
  c.requires.1,
  ap length (took 1024 n c.requires.0) ∙ length-replicate {A = ℕ} n 0,
  took 1024 n c.requires.0,
  c.requires.2,
  c.requires.3,
  c.requires.4,
)
