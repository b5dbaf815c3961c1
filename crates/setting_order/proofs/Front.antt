-- The order of a setting, over the front of a list that is longer.
-- Assumes nothing.
use mathlib.Core.Path.{◌≡◌, ap}
use mathlib.Core.List.{List}
use Prim.Native.Nat.{ℕ, ◌≤◌}
use native.Mathlib.Omega.{arith}
use lib.ListN.{length, take}
use Rattle.answers.specs.Buffers.{overlay}
use Rattle.answers.proofs.Buffers.{overlay_taken, overlay-length}
use Rattle.network.specs.Wiring.{Wiring, Lawful}
use Rattle.network.specs.Blocks.{order_of}
use Rattle.network.proofs.Order.{length-order}

module _ {w : Wiring} (L : Lawful w) (n : ℕ) (bits before : List ℕ) {order : List ℕ} (e : order ≡ overlay before 0 (order_of w n bits)) where
  pub order-front : take n order ≡ order_of w n bits
  order-front = overlay_taken before e (length-order L n bits)

  pub order_room_lem : n ≤ length before → n ≤ length order
  order_room_lem h = omega (arith, ap length e, overlay-length before 0 (order_of w n bits) (omega (arith, length-order L n bits)))
