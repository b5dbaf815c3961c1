-- Two settings with one order, each in its own wiring, move all items alike.
-- Assumes nothing.
use mathlib.Core.Path.{◌≡◌, sym, ap, ◌∙◌}
use mathlib.Core.List.{List, []}
use Prim.Native.Nat.{ℕ, ◌<◌}
use native.Mathlib.Omega.{arith}
use lib.ListN.{length, get_or}
use lib.Seq.{ext_get_or}
use Rattle.network.specs.Wiring.{Wiring, Lawful}
use Rattle.network.specs.Network.{network}
use Rattle.network.specs.Move.{forward, backward}
use Rattle.network.specs.Blocks.{cut, bytes_of, moved, moved_back, order_of}
use Rattle.network.proofs.Shape.{sized, length-forward, length-backward}
use Rattle.network.proofs.Where.{came_from, input, output, across-below}
use Rattle.network.proofs.Blocks.{length_cut}
use Rattle.network.proofs.Order.{order_onto, order-forward, order-backward}

module _ {w v : Wiring} (L : Lawful w) (M : Lawful v) (n : ℕ) (a b : List ℕ) (same : order_of w n a ≡ order_of v n b) where
  module _ {A : Type 0} (d : A) (xs : List A) (long : length xs ≡ n) where
    -- the item that forward leaves at q came from the place whose entry in the order is q
    pub forward_alike : forward d w (network n) a xs ≡ forward d v (network n) b xs
    forward_alike =
        let left : length (forward d w (network n) a xs) ≡ n = length-forward d w n a xs long in
        ext_get_or d (forward d w (network n) a xs) (forward d v (network n) b xs) (left ∙ sym (length-forward d v n b xs long))
        (λ q l.
        let below : q < n = omega arith in
        let i = came_from w (network n) a q in
        let within : i < n = across-below L output input (sized n) a q below in
        let there : get_or (order_of w n a) i 0 ≡ q = order_onto L n a q below in
        let also : get_or (order_of v n b) i 0 ≡ q = ap (λ o. get_or o i 0) (sym same) ∙ there in
        ap (λ p. get_or (forward d w (network n) a xs) p d) (sym there)
        ∙ order-forward L n a d xs long i within
        ∙ sym (order-forward M n b d xs long i within)
        ∙ ap (λ p. get_or (forward d v (network n) b xs) p d) also)

    pub backward_alike : backward d w (network n) a xs ≡ backward d v (network n) b xs
    backward_alike =
        let left : length (backward d w (network n) a xs) ≡ n = length-backward d w n a xs long in
        ext_get_or d (backward d w (network n) a xs) (backward d v (network n) b xs) (left ∙ sym (length-backward d v n b xs long))
        (λ i l.
        let below : i < n = omega arith in
        order-backward L n a d xs long i below
        ∙ ap (λ o. get_or xs (get_or o i 0) d) same
        ∙ sym (order-backward M n b d xs long i below))

  -- so they do all blocks
  module _ (width : ℕ) (bytes : List ℕ) where
    pub moved_alike : moved w n width a bytes ≡ moved v n width b bytes
    unfolding moved
    moved_alike = ap bytes_of (forward_alike [] (cut width n bytes) (length_cut width n bytes))

    pub moved_back_alike : moved_back w n width a bytes ≡ moved_back v n width b bytes
    unfolding moved_back
    moved_back_alike = ap bytes_of (backward_alike [] (cut width n bytes) (length_cut width n bytes))
