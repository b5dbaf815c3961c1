-- Where a network takes each item, by the bits alone: the place from which the item at a place came, and the place to
-- which it goes. The two undo each other, and forward and backward move every list by them.
-- Assumes nothing.
use mathlib.Core.Bool.{Bool, true, false, cond}
use mathlib.Core.Path.{◌≡◌, refl, sym, ap, ◌∙◌}
use mathlib.Core.List.{List}
use Prim.Native.Nat.{ℕ, ◌-◌, ◌≤◌, ◌<◌}
use native.Mathlib.Omega.{arith}
use lib.ListN.{length, get_or, drop}
use Rattle.counts.specs.Counts.{up}
use Rattle.network.specs.Wiring.{Wiring, Lawful, Side}
use Rattle.network.specs.Network.{Network, wires, split, switch_count, down}
use Rattle.network.specs.Move.{layer, layer_back, part, joined, forward, backward}
use Rattle.network.proofs.Shape.{Sized, none, some, length_part, length-joined}
use Rattle.network.proofs.Places.{Lies, laid, lies_top, lies_both, lies_turned, lies_below, below_lies, turned, turned-twice, crosses}
use Rattle.network.proofs.Layer.{layer-at, layer_back-at, part_at, joined_at}

-- the bits of the parts of a network
abbrev pub top_bits : ℕ → List ℕ → List ℕ
top_bits m bits = drop (up m - 1) bits

abbrev pub bottom_bits : ℕ → Network → List ℕ → List ℕ
bottom_bits m top bits = drop (switch_count top) (top_bits m bits)

abbrev pub output_bits : ℕ → Network → Network → List ℕ → List ℕ
output_bits m top bottom bits = drop (switch_count bottom) (bottom_bits m top bits)

-- the two layers of a network, the switches of each and their bits
pub data Layer : Type 0 where
  input output : Layer

abbrev pub size : Layer → ℕ → ℕ
size input m = up m - 1
size output m = down m

abbrev pub bits_of : Layer → ℕ → Network → Network → List ℕ → List ℕ
bits_of input m top bottom bits = bits
bits_of output m top bottom bits = output_bits m top bottom bits

pub size_fits : (a : Layer) (m : ℕ) → size a m ≤ down m
size_fits input m = omega arith
size_fits output m = omega arith

-- the same side of another pair: what the half that owns the side does
abbrev pub in_halves : (ℕ → ℕ) → (ℕ → ℕ) → Side → Side
in_halves top bottom p = (cond p.1 (bottom p.0) (top p.0), p.1)

module _ (w : Wiring) where
  -- through a layer, a half and another layer
  abbrev pub through : ℕ → (ℕ → Bool) → (Side → Side) → (ℕ → Bool) → ℕ → ℕ
  through k a half b q = w.enc k (turned b (half (turned a (w.dec k q))))

  -- through a network, entering it by one layer of it and leaving it by another
  unfoldable pub across : Layer → Layer → Network → List ℕ → ℕ → ℕ
  across a b wires bits q = q
  across a b (split m top bottom) bits q =
      through
      (up m)
      (crosses (size a m) (bits_of a m top bottom bits))
      (in_halves (across a b top (top_bits m bits)) (across a b bottom (bottom_bits m top bits)))
      (crosses (size b m) (bits_of b m top bottom bits))
      q

  -- the place from which the item comes that forward leaves at q
  abbrev pub came_from : Network → List ℕ → ℕ → ℕ
  came_from = across output input

  -- the place to which forward takes the item at q
  abbrev pub goes_to : Network → List ℕ → ℕ → ℕ
  goes_to = across input output

-- functions of the halves that keep to their half
pub record Keeps (m : ℕ) (top bottom : ℕ → ℕ) : Type 0 where
  pub on_top : (j : ℕ) → j < up m → top j < up m
  pub on_bottom : (j : ℕ) → j < down m → bottom j < down m

pub lies_halves : {m : ℕ} {top bottom : ℕ → ℕ} → Keeps m top bottom → (p : Side) → Lies m p → Lies m (in_halves top bottom p)
lies_halves {m} {top} {bottom} keeps p l = go p.0 p.1 l
  where
    go : (j : ℕ) (t : Bool) → Lies m (j, t) → Lies m (in_halves top bottom (j, t))
    go j false l = lies_top m (top j) (keeps.on_top j l.pair)
    go j true l = lies_both m (bottom j, true) (keeps.on_bottom j (l.other refl))

halves_undo :
    {m : ℕ} (f g f' g' : ℕ → ℕ) → ((j : ℕ) → j < up m → f' (f j) ≡ j) → ((j : ℕ) → j < down m → g' (g j) ≡ j)
    → (p : Side) → Lies m p → in_halves f' g' (in_halves f g p) ≡ p
halves_undo {m} f g f' g' top bottom p l = go p.0 p.1 l
  where
    go : (j : ℕ) (t : Bool) → Lies m (j, t) → in_halves f' g' (in_halves f g (j, t)) ≡ (j, t)
    go j false l = ap (λ (i : ℕ). (i, false)) (top j l.pair)
    go j true l = ap (λ (i : ℕ). (i, true)) (bottom j (l.other refl))

module _ {w : Wiring} (L : Lawful w) where
  module _ (m c e : ℕ) (x y : List ℕ) (hc : c ≤ down m) (he : e ≤ down m) (f g : ℕ → ℕ) (keeps : Keeps m f g) where
    -- the side that a place reaches behind the half
    behind : (q : ℕ) → q < m → Lies m (in_halves f g (turned (crosses c x) (w.dec (up m) q)))
    behind q h = lies_halves keeps (turned (crosses c x) (w.dec (up m) q)) (lies_turned m c x (w.dec (up m) q) hc (below_lies L m q h))

    through-below : (q : ℕ) → q < m → through w (up m) (crosses c x) (in_halves f g) (crosses e y) q < m
    through-below q h =
        let p = in_halves f g (turned (crosses c x) (w.dec (up m) q)) in
        lies_below L m (turned (crosses e y) p) (lies_turned m e y p he (behind q h))

    through-back :
        (f' g' : ℕ → ℕ) → ((j : ℕ) → j < up m → f' (f j) ≡ j) → ((j : ℕ) → j < down m → g' (g j) ≡ j)
        → (q : ℕ) → q < m
        → through w (up m) (crosses e y) (in_halves f' g') (crosses c x)
        (through w (up m) (crosses c x) (in_halves f g) (crosses e y) q)
        ≡ q
    through-back f' g' top bottom q h =
        let k = up m in
        let a = crosses c x in
        let b = crosses e y in
        let s : Side = w.dec k q in
        let p : Side = in_halves f g (turned a s) in
        let back : Side → ℕ = λ r. w.enc k (turned a (in_halves f' g' (turned b r))) in
        ap back (L.dec_enc k (turned b p) (behind q h).pair)
        ∙ ap (λ (r : Side). w.enc k (turned a (in_halves f' g' r))) (turned-twice b p)
        ∙ ap
        (λ (r : Side). w.enc k (turned a r))
        (halves_undo f g f' g' top bottom (turned a s) (lies_turned m c x s hc (below_lies L m q h)))
        ∙ ap (w.enc k) (turned-twice a s)
        ∙ L.enc_dec k q (omega arith)

  pub across-below :
      (a b : Layer) {m : ℕ} {net : Network} → Sized m net → (bits : List ℕ) (q : ℕ) → q < m → across w a b net bits q < m
  unfolding across
  across-below a b (none z) bits q h = h
  across-below a b {m} (some {top = top} {bottom = bottom} two t u) bits q h =
      through-below m (size a m) (size b m) (bits_of a m top bottom bits) (bits_of b m top bottom bits) (size_fits a m) (size_fits b m)
      (across w a b top (top_bits m bits))
      (across w a b bottom (bottom_bits m top bits))
      (record { on_top = across-below a b t (top_bits m bits); on_bottom = across-below a b u (bottom_bits m top bits) })
      q
      h

  -- back through the same network
  pub across-back :
      (a b : Layer) {m : ℕ} {net : Network} → Sized m net → (bits : List ℕ) (q : ℕ) → q < m
      → across w b a net bits (across w a b net bits q) ≡ q
  unfolding across
  across-back a b (none z) bits q h = refl
  across-back a b {m} (some {top = top} {bottom = bottom} two t u) bits q h =
      through-back m (size a m) (size b m) (bits_of a m top bottom bits) (bits_of b m top bottom bits) (size_fits a m) (size_fits b m)
      (across w a b top (top_bits m bits))
      (across w a b bottom (bottom_bits m top bits))
      (record { on_top = across-below a b t (top_bits m bits); on_bottom = across-below a b u (bottom_bits m top bits) })
      (across w b a top (top_bits m bits))
      (across w b a bottom (bottom_bits m top bits))
      (across-back a b t (top_bits m bits))
      (across-back a b u (bottom_bits m top bits))
      q
      h

  module _ {A : Type 0} (d : A) where
    -- the halves moved a list's two parts, and the parts are at their places again
    halves_at :
        (m : ℕ) (entered top bottom : List A) (f g : ℕ → ℕ) → Keeps m f g
        → ((j : ℕ) → j < up m → get_or top j d ≡ get_or (part d w (up m) false (up m) entered) (f j) d)
        → ((j : ℕ) → j < down m → get_or bottom j d ≡ get_or (part d w (up m) true (down m) entered) (g j) d)
        → (p : Side) → Lies m p
        → get_or (joined d w (up m) m top bottom) (w.enc (up m) p) d ≡ get_or entered (w.enc (up m) (in_halves f g p)) d
    halves_at m entered top bottom f g keeps tops bottoms p l =
        joined_at d w (up m) m top bottom (w.enc (up m) p) (lies_below L m p l)
        ∙ ap (λ (s : Side). get_or (cond s.1 bottom top) s.0 d) (L.dec_enc (up m) p l.pair)
        ∙ go p.0 p.1 l
      where
        go : (j : ℕ) (t : Bool) → Lies m (j, t)
            → get_or (cond t bottom top) j d ≡ get_or entered (w.enc (up m) (in_halves f g (j, t))) d
        go j false l = tops j l.pair ∙ part_at d w (up m) false (up m) entered (f j) (keeps.on_top j l.pair)
        go j true l =
            bottoms j (l.other refl)
            ∙ part_at d w (up m) true (down m) entered (g j) (keeps.on_bottom j (l.other refl))

    -- one level, forward or backward: `entered` is xs behind the first layer, `left` what the last layer leaves
    level_at :
        (m c e : ℕ) (x y : List ℕ) (xs entered top bottom left : List A) (f g : ℕ → ℕ) → Keeps m f g → c ≤ down m
        → ((p : Side) → Lies m p
        → get_or left (w.enc (up m) p) d ≡ get_or (joined d w (up m) m top bottom) (w.enc (up m) (turned (crosses c x) p)) d)
        → ((j : ℕ) → j < up m → get_or top j d ≡ get_or (part d w (up m) false (up m) entered) (f j) d)
        → ((j : ℕ) → j < down m → get_or bottom j d ≡ get_or (part d w (up m) true (down m) entered) (g j) d)
        → ((p : Side) → Lies m p → get_or entered (w.enc (up m) p) d ≡ get_or xs (w.enc (up m) (turned (crosses e y) p)) d)
        → (q : ℕ) → q < m
        → get_or left q d ≡ get_or xs (through w (up m) (crosses c x) (in_halves f g) (crosses e y) q) d
    level_at m c e x y xs entered top bottom left f g keeps hc last tops bottoms first q h =
        let s : Side = w.dec (up m) q in
        let ls = below_lies L m q h in
        let p : Side = turned (crosses c x) s in
        let lp = lies_turned m c x s hc ls in
        ap (λ (z : ℕ). get_or left z d) (sym (L.enc_dec (up m) q (omega arith)))
        ∙ last s ls
        ∙ halves_at m entered top bottom f g keeps tops bottoms p lp
        ∙ first (in_halves f g p) (lies_halves keeps p lp)

    pub forward-at_of :
        {m : ℕ} {net : Network} → Sized m net → (bits : List ℕ) (xs : List A) → length xs ≡ m
        → (q : ℕ) → q < m → get_or (forward d w net bits xs) q d ≡ get_or xs (came_from w net bits q) d
    unfolding forward across
    forward-at_of (none z) bits xs e q h = refl
    forward-at_of {m} (some {top = top} {bottom = bottom} two t u) bits xs e q h =
        let k = up m in
        let entered = layer d w k (k - 1) bits xs in
        let tops = part d w k false k entered in
        let bottoms = part d w k true (down m) entered in
        let top' = forward d w top (top_bits m bits) tops in
        let bottom' = forward d w bottom (bottom_bits m top bits) bottoms in
        level_at m (down m) (k - 1) (output_bits m top bottom bits) bits xs entered top' bottom'
        (layer d w k (down m) (output_bits m top bottom bits) (joined d w k m top' bottom'))
        (came_from w top (top_bits m bits))
        (came_from w bottom (bottom_bits m top bits))
        (record { on_top = across-below output input t (top_bits m bits); on_bottom = across-below output input u (bottom_bits m top bits) })
        (omega arith)
        (layer-at d w k m (down m) (output_bits m top bottom bits) (joined d w k m top' bottom') (rw length-joined (laid L m)) (omega arith))
        (forward-at_of t (top_bits m bits) tops (length_part d w k false k entered))
        (forward-at_of u (bottom_bits m top bits) bottoms (length_part d w k true (down m) entered))
        (layer-at d w k m (k - 1) bits xs (rw e (laid L m)) (omega arith))
        q
        h

    pub backward-at_of :
        {m : ℕ} {net : Network} → Sized m net → (bits : List ℕ) (xs : List A) → length xs ≡ m
        → (q : ℕ) → q < m → get_or (backward d w net bits xs) q d ≡ get_or xs (goes_to w net bits q) d
    unfolding backward across
    backward-at_of (none z) bits xs e q h = refl
    backward-at_of {m} (some {top = top} {bottom = bottom} two t u) bits xs e q h =
        let k = up m in
        let entered = layer_back d w k (down m) (output_bits m top bottom bits) xs in
        let tops = part d w k false k entered in
        let bottoms = part d w k true (down m) entered in
        let top' = backward d w top (top_bits m bits) tops in
        let bottom' = backward d w bottom (bottom_bits m top bits) bottoms in
        level_at m (k - 1) (down m) bits (output_bits m top bottom bits) xs entered top' bottom'
        (layer_back d w k (k - 1) bits (joined d w k m top' bottom'))
        (goes_to w top (top_bits m bits))
        (goes_to w bottom (bottom_bits m top bits))
        (record { on_top = across-below input output t (top_bits m bits); on_bottom = across-below input output u (bottom_bits m top bits) })
        (omega arith)
        (layer_back-at d w k m (k - 1) bits (joined d w k m top' bottom') (rw length-joined (laid L m)) (omega arith))
        (backward-at_of t (top_bits m bits) tops (length_part d w k false k entered))
        (backward-at_of u (bottom_bits m top bits) bottoms (length_part d w k true (down m) entered))
        (layer_back-at d w k m (down m) (output_bits m top bottom bits) xs (rw e (laid L m)) (omega arith))
        q
        h
