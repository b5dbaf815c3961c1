-- Every list of bits sets an order: the places to which a setting carries the items are a permutation.
-- Assumes nothing.
use mathlib.Core.List.{List}
use Prim.Native.Nat.{ℕ}
use Rattle.network.specs.Wiring.{Wiring, Lawful}
use Rattle.network.specs.Blocks.{order_of}
use Rattle.network.proofs.Order.{length-order, order_below, order-apart}
use Rattle.permutation.specs.Permutations.{IsPermutation}

pub order_permutation : {w : Wiring} → Lawful w → (n : ℕ) (bits : List ℕ) → IsPermutation n (order_of w n bits)
order_permutation L n bits =
    record { whole = length-order L n bits; below = order_below L n bits; unlike = order-apart L n bits }
