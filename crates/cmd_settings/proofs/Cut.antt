-- The program reads at most 2,051 bytes, and prints what the whole input would give.
-- Assumes nothing.
use mathlib.Core.Path.{◌≡◌, sym, ◌∙◌}
use mathlib.Core.List.{List}
use Prim.Native.Nat.{ℕ}
use lib.ListN.{take}
use Rattle.rows.proofs.Reach.{enough}
use Rattle.cmd_read_order.specs.Orders.{order_room}
use Rattle.cmd_read_order.proofs.Cut.{order-cut}
use Rattle.cmd_settings.specs.Settings.{settings_text}
use Rattle.cmd_settings.proofs.Printing.{text_of_lem}

pub settings_cut : (input : List ℕ) → settings_text (take order_room input) ≡ settings_text input
settings_cut input =
    enough settings_text order_room input (λ long.
    let C = order-cut input long in
    text_of_lem (take order_room input) C.first ∙ sym (text_of_lem input C.second))
