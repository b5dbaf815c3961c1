-- How a network moves a list of anything, by its own rule (01, 'Running a log', last part; 001, Figure 11).
-- Assumes nothing: these are definitions.
use Rattle.std.specs.Prelude.{◌≡◌, Bool, true, false, cond, List, [], ◌∷◌, ◌++◌, ℕ, zero, suc, ◌-◌, ◌<◌, eqb, length, get_or, set, drop}
use Rattle.counts.specs.Counts.{up}
use Rattle.network.specs.Wiring.{Wiring}
use Rattle.network.specs.Network.{Network, wires, split, switch_count, down}

module _ {A : Type 0} (d : A) where
  -- a switch on the places p and q: bit 1 exchanges the two items, another leaves them (d stands past a list's end)
  unfoldable pub switch : ℕ → ℕ → ℕ → List A → List A
  switch p q bit xs = cond (eqb bit 1) (set (set xs p (get_or xs q d)) q (get_or xs p d)) xs

  -- F is the same of a list and of what an exchange of any two of its places leaves
  abbrev pub Kept : {B : Type 0} → (List A → B) → Type 0
  Kept F = (p q : ℕ) (xs : List A) → p < length xs → q < length xs → F (switch p q 1 xs) ≡ F xs

  module _ (w : Wiring) where
    -- the first c switches of a layer of k pairs, first to last: switch i on pair i, under bit i
    unfoldable pub layer : ℕ → ℕ → List ℕ → List A → List A
    layer k zero bits xs = xs
    layer k (suc i) bits xs = switch (w.enc k (i, false)) (w.enc k (i, true)) (get_or bits i 0) (layer k i bits xs)

    -- the same, last to first
    unfoldable pub layer_back : ℕ → ℕ → List ℕ → List A → List A
    layer_back k zero bits xs = xs
    layer_back k (suc i) bits xs = layer_back k i bits (switch (w.enc k (i, false)) (w.enc k (i, true)) (get_or bits i 0) xs)

    -- the items at the first c places of one half (false: the top)
    unfoldable pub part : ℕ → Bool → ℕ → List A → List A
    part k t zero xs = []
    part k t (suc i) xs = part k t i xs ++ (get_or xs (w.enc k (i, t)) d ∷ [])

    -- the two parts at their places again, for the first q places
    unfoldable pub joined : ℕ → ℕ → List A → List A → List A
    joined k zero top bottom = []
    joined k (suc q) top bottom =
        joined k q top bottom ++ (get_or (cond (w.dec k q).1 bottom top) (w.dec k q).0 d ∷ [])

    -- input switches, top, bottom, output switches, each switch under its own bit
    unfoldable pub forward : Network → List ℕ → List A → List A
    forward wires bits xs = xs
    forward (split m top bottom) bits xs =
        let k = up m in
        let top_bits = drop (k - 1) bits in
        let bottom_bits = drop (switch_count top) top_bits in
        let output_bits = drop (switch_count bottom) bottom_bits in
        let entered = layer k (k - 1) bits xs in
        layer k (down m) output_bits
        (joined k m (forward top top_bits (part k false k entered)) (forward bottom bottom_bits (part k true (down m) entered)))

    -- the same switches last to first
    unfoldable pub backward : Network → List ℕ → List A → List A
    backward wires bits xs = xs
    backward (split m top bottom) bits xs =
        let k = up m in
        let top_bits = drop (k - 1) bits in
        let bottom_bits = drop (switch_count top) top_bits in
        let output_bits = drop (switch_count bottom) bottom_bits in
        let entered = layer_back k (down m) output_bits xs in
        layer_back k (k - 1) bits
        (joined k m (backward top top_bits (part k false k entered)) (backward bottom bottom_bits (part k true (down m) entered)))
