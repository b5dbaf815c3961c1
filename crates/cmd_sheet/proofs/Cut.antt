-- The program reads at most 2,051 bytes, and writes what the whole input would give.
-- Assumes nothing.
use mathlib.Core.Path.{◌≡◌}
use mathlib.Core.List.{List}
use Prim.Native.Nat.{ℕ}
use lib.ListN.{take}
use Rattle.rows.proofs.Reach.{enough}
use Rattle.cmd_read_order.specs.Orders.{order_room}
use Rattle.cmd_read_order.proofs.Cut.{order-cut}
use Rattle.cmd_sheet.specs.Calls.{sheet_call}

pub sheet-cut : (input out : List ℕ) → sheet_call (take order_room input) out ≡ sheet_call input out
unfolding sheet_call
sheet-cut input out =
    enough (λ bytes. sheet_call bytes out) order_room input (λ long.
    let C = order-cut input long in
    rw (C.first, C.second))
