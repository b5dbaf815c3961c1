-- Backward undoes forward, and forward backward.
-- Assumes nothing.
use mathlib.Core.Path.{◌≡◌, sym, ap, ◌∙◌}
use mathlib.Core.List.{List}
use Prim.Native.Nat.{ℕ, ◌<◌}
use native.Mathlib.Omega.{arith}
use lib.ListN.{length, get_or}
use lib.Seq.{ext_get_or}
use Rattle.network.specs.Wiring.{Wiring, Lawful}
use Rattle.network.specs.Network.{network}
use Rattle.network.specs.Move.{forward, backward}
use Rattle.network.proofs.Shape.{sized, length-forward, length-backward}
use Rattle.network.proofs.Where.{came_from, goes_to, input, output, across-below, across-back, forward-at_of, backward-at_of}

module _ {A : Type 0} (d : A) {w : Wiring} (L : Lawful w) (n : ℕ) (bits : List ℕ) (xs : List A) (e : length xs ≡ n) where
  -- the item that forward leaves at q, and the item that backward leaves at i
  pub forward-at : (q : ℕ) → q < n → get_or (forward d w (network n) bits xs) q d ≡ get_or xs (came_from w (network n) bits q) d
  forward-at q h = forward-at_of L d (sized n) bits xs e q h

  pub backward-at : (i : ℕ) → i < n → get_or (backward d w (network n) bits xs) i d ≡ get_or xs (goes_to w (network n) bits i) d
  backward-at i h = backward-at_of L d (sized n) bits xs e i h

module _ {A : Type 0} (d : A) {w : Wiring} (L : Lawful w) (n : ℕ) (bits : List ℕ) (xs : List A) (e : length xs ≡ n) where
  pub backward-forward : backward d w (network n) bits (forward d w (network n) bits xs) ≡ xs
  backward-forward =
      let ys = forward d w (network n) bits xs in
      let long : length ys ≡ n = length-forward d w n bits xs e in
      let back : length (backward d w (network n) bits ys) ≡ n = length-backward d w n bits ys long in
      ext_get_or d (backward d w (network n) bits ys) xs (back ∙ sym e)
      (λ i h.
      let below : i < n = omega arith in
      backward-at d L n bits ys long i below
      ∙ forward-at d L n bits xs e (goes_to w (network n) bits i) (across-below L input output (sized n) bits i below)
      ∙ ap (λ (j : ℕ). get_or xs j d) (across-back L input output (sized n) bits i below))

  pub forward-backward : forward d w (network n) bits (backward d w (network n) bits xs) ≡ xs
  forward-backward =
      let ys = backward d w (network n) bits xs in
      let long : length ys ≡ n = length-backward d w n bits xs e in
      let there : length (forward d w (network n) bits ys) ≡ n = length-forward d w n bits ys long in
      ext_get_or d (forward d w (network n) bits ys) xs (there ∙ sym e)
      (λ q h.
      let below : q < n = omega arith in
      forward-at d L n bits ys long q below
      ∙ backward-at d L n bits xs e (came_from w (network n) bits q) (across-below L output input (sized n) bits q below)
      ∙ ap (λ (j : ℕ). get_or xs j d) (across-back L output input (sized n) bits q below))
