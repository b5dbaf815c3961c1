-- Moving blocks in bytes: widths stay, and moving forward and back undo each other.
-- Assumes nothing.
use mathlib.Core.Path.{◌≡◌, ap, ◌∙◌}
use mathlib.Core.List.{List, []}
use Prim.Native.Nat.{ℕ, ◌*◌, ◌<◌}
use native.Mathlib.Omega.{arith}
use lib.ListN.{length}
use Rattle.network.specs.Wiring.{Wiring, Lawful}
use Rattle.network.specs.Network.{network}
use Rattle.network.specs.Move.{forward, backward}
use Rattle.network.specs.Blocks.{cut, bytes_of, moved, moved_back}
use Rattle.network.proofs.Shape.{sized, length-forward, length-backward}
use Rattle.network.proofs.Blocks.{Wide, length_cut, length_bytes_of, bytes_cut, cut_bytes, cut_wide}
use Rattle.network.proofs.Where.{came_from, goes_to, input, output, across-below}
use Rattle.network.proofs.Undo.{forward-at, backward-at, backward-forward, forward-backward}

module _ {w : Wiring} (L : Lawful w) (n width : ℕ) (bits : List ℕ) where
  module _ (bs : List (List ℕ)) (wide : Wide width bs) (long : length bs ≡ n) where
    pub forward_wide : Wide width (forward [] w (network n) bits bs)
    forward_wide q h =
        let below : q < n = omega (arith, length-forward [] w n bits bs long) in
        rw (forward-at [] L n bits bs long q below)
        (wide (came_from w (network n) bits q) (omega (arith, across-below L output input (sized n) bits q below)))

    pub backward_wide : Wide width (backward [] w (network n) bits bs)
    backward_wide i h =
        let below : i < n = omega (arith, length-backward [] w n bits bs long) in
        rw (backward-at [] L n bits bs long i below)
        (wide (goes_to w (network n) bits i) (omega (arith, across-below L input output (sized n) bits i below)))

  module _ (bytes : List ℕ) (e : length bytes ≡ n * width) where
    blocks_wide : Wide width (cut width n bytes)
    blocks_wide = cut_wide width n bytes (omega arith)

    -- the moved bytes, cut, are the blocks moved
    pub cut_moved : cut width n (moved w n width bits bytes) ≡ forward [] w (network n) bits (cut width n bytes)
    unfolding moved
    cut_moved =
        cut_bytes width n (forward [] w (network n) bits (cut width n bytes))
        (forward_wide (cut width n bytes) blocks_wide (length_cut width n bytes))
        (length-forward [] w n bits (cut width n bytes) (length_cut width n bytes))

    pub cut-moved_back : cut width n (moved_back w n width bits bytes) ≡ backward [] w (network n) bits (cut width n bytes)
    unfolding moved_back
    cut-moved_back =
        cut_bytes width n (backward [] w (network n) bits (cut width n bytes))
        (backward_wide (cut width n bytes) blocks_wide (length_cut width n bytes))
        (length-backward [] w n bits (cut width n bytes) (length_cut width n bytes))

    pub length_moved : length (moved w n width bits bytes) ≡ n * width
    unfolding moved
    length_moved =
        length_bytes_of width (forward [] w (network n) bits (cut width n bytes))
        (forward_wide (cut width n bytes) blocks_wide (length_cut width n bytes))
        ∙ ap (λ (c : ℕ). c * width) (length-forward [] w n bits (cut width n bytes) (length_cut width n bytes))

    pub length-moved_back : length (moved_back w n width bits bytes) ≡ n * width
    unfolding moved_back
    length-moved_back =
        length_bytes_of width (backward [] w (network n) bits (cut width n bytes))
        (backward_wide (cut width n bytes) blocks_wide (length_cut width n bytes))
        ∙ ap (λ (c : ℕ). c * width) (length-backward [] w n bits (cut width n bytes) (length_cut width n bytes))

    pub moved_back-moved : moved_back w n width bits (moved w n width bits bytes) ≡ bytes
    unfolding moved_back
    moved_back-moved =
        ap (λ (bs : List (List ℕ)). bytes_of (backward [] w (network n) bits bs)) cut_moved
        ∙ ap bytes_of (backward-forward [] L n bits (cut width n bytes) (length_cut width n bytes))
        ∙ bytes_cut width n bytes e

    pub moved-moved_back : moved w n width bits (moved_back w n width bits bytes) ≡ bytes
    unfolding moved
    moved-moved_back =
        ap (λ (bs : List (List ℕ)). bytes_of (forward [] w (network n) bits bs)) cut-moved_back
        ∙ ap bytes_of (forward-backward [] L n bits (cut width n bytes) (length_cut width n bytes))
        ∙ bytes_cut width n bytes e
