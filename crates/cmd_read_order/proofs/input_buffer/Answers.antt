-- `cmd_read_order::input_buffer` meets its contract.
-- Assumes nothing.
use mathlib.Core.Path.{refl, sym}
use Prim.Native.Nat.{ℕ}
use lib.ListN.{length-replicate}
use Rattle.cmd_read_order.specs.Orders.{order_room}
use Rattle.cmd_read_order.proofs.input_buffer.Goals as goal

pub returns : goal.returns
returns c = (sym (length-replicate {A = ℕ} order_room 0), refl)
