-- A setting moves the items by an order that its bits alone give, whatever the items are.
-- Assumes nothing.
use mathlib.Core.Path.{◌≡◌, sym, ap, ◌∙◌}
use mathlib.Core.List.{List}
use Prim.Native.Nat.{ℕ, ◌<◌}
use lib.ListN.{length, get_or}
use Rattle.permutation.specs.Permutations.{identity}
use Rattle.permutation.proofs.Laws.{identity-length, identity-at}
use Rattle.network.specs.Wiring.{Wiring, Lawful}
use Rattle.network.specs.Network.{network}
use Rattle.network.specs.Move.{forward, backward}
use Rattle.network.specs.Blocks.{order_of}
use Rattle.network.proofs.Shape.{sized, length-backward}
use Rattle.network.proofs.Where.{came_from, goes_to, input, output, across-below, across-back}
use Rattle.network.proofs.Undo.{forward-at, backward-at}

module _ {w : Wiring} (L : Lawful w) (n : ℕ) (bits : List ℕ) where
  pub length-order : length (order_of w n bits) ≡ n
  unfolding order_of
  length-order = length-backward 0 w n bits (identity n) (identity-length n)

  pub order-at : (i : ℕ) → i < n → get_or (order_of w n bits) i 0 ≡ goes_to w (network n) bits i
  unfolding order_of
  order-at i h =
      backward-at 0 L n bits (identity n) (identity-length n) i h
      ∙ identity-at n (goes_to w (network n) bits i) (across-below L input output (sized n) bits i h)

  -- the order is a permutation of 0 .. n - 1
  pub order_below : (i : ℕ) → i < n → get_or (order_of w n bits) i 0 < n
  order_below i h = rw (order-at i h) (across-below L input output (sized n) bits i h)

  pub order-apart : (i j : ℕ) → i < n → j < n → get_or (order_of w n bits) i 0 ≡ get_or (order_of w n bits) j 0 → i ≡ j
  order-apart i j h g e =
      sym (across-back L input output (sized n) bits i h)
      ∙ ap (came_from w (network n) bits) (sym (order-at i h) ∙ e ∙ order-at j g)
      ∙ across-back L input output (sized n) bits j g

  pub order_onto : (q : ℕ) → q < n → get_or (order_of w n bits) (came_from w (network n) bits q) 0 ≡ q
  order_onto q h =
      order-at (came_from w (network n) bits q) (across-below L output input (sized n) bits q h)
      ∙ across-back L output input (sized n) bits q h

  -- forward takes the item at i to the place that the order says, and backward brings it back from there
  module _ {A : Type 0} (d : A) (xs : List A) (long : length xs ≡ n) where
    pub order-forward :
        (i : ℕ) → i < n → get_or (forward d w (network n) bits xs) (get_or (order_of w n bits) i 0) d ≡ get_or xs i d
    order-forward i h =
        forward-at d L n bits xs long (get_or (order_of w n bits) i 0) (order_below i h)
        ∙ ap
        (λ (j : ℕ). get_or xs j d)
        (ap (came_from w (network n) bits) (order-at i h) ∙ across-back L input output (sized n) bits i h)

    pub order-backward :
        (i : ℕ) → i < n → get_or (backward d w (network n) bits xs) i d ≡ get_or xs (get_or (order_of w n bits) i 0) d
    order-backward i h =
        backward-at d L n bits xs long i h ∙ ap (λ (j : ℕ). get_or xs j d) (sym (order-at i h))
