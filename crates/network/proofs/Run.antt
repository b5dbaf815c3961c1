-- Running the log of mixing moves the items forward, as the network's own rule does.
-- Assumes nothing.
use mathlib.Core.Bool.{Bool, true, false, false≢true}
use mathlib.Core.Path.{◌≡◌, refl, sym, ap, ◌∙◌}
use mathlib.Core.Logic.{◌≢◌}
use mathlib.Core.List.{List, [], ◌∷◌, ◌++◌}
use Prim.Native.Nat.{ℕ, zero, suc, ◌+◌, ◌-◌, ◌≤◌, ◌<◌}
use native.Mathlib.Nat.{zero-add}
use native.Mathlib.Omega.{arith}
use lib.ListN.{length, get_or, drop}
use lib.Seq.{ext_get_or, get_or-drop}
use Rattle.counts.specs.Counts.{up}
use Rattle.network.specs.Wiring.{Wiring, Lawful, Side}
use Rattle.network.specs.Network.{Network, split, network, switch_count, down}
use Rattle.network.specs.Move.{layer, forward}
use Rattle.network.specs.Log.{Entry, entry, layer_entries, switches, apply_entries, run_entry, run}
use Rattle.network.proofs.Shape.{Sized, none, some, sized, length-layer, length-forward}
use Rattle.network.proofs.Places.{Lies, Laid, lies_top, lies_both, lies_turned, lies_below, below_lies, laid, turned, crosses}
use Rattle.network.proofs.Layer.{layer-at, layer-other}
use Rattle.network.proofs.Where.{top_bits, bottom_bits, output_bits, in_halves, through, Keeps, lies_halves, came_from, across, input, output, across-below}
use Rattle.network.proofs.Undo.{forward-at}

-- a wiring whose sides lie at given places, which is all that a layer asks of one
abbrev placed : (Side → ℕ) → Wiring
placed at = record { enc = λ k p. at p; dec = λ k q. (q, false) }

-- `own` reads as the bits from position b on do
abbrev Own : List ℕ → ℕ → List ℕ → Type 0
Own bits b own = (z : ℕ) → get_or own z 0 ≡ get_or bits (b + z) 0

own_drop : (bits own : List ℕ) (b : ℕ) → Own bits b own → (c b' : ℕ) → b' ≡ b + c → Own bits b' (drop c own)
own_drop bits own b h c b' e z =
    get_or-drop c own z 0 ∙ h (c + z) ∙ ap (λ (j : ℕ). get_or bits j 0) (let f : b + (c + z) ≡ b' + z = omega arith in f)

module _ {A : Type 0} (d : A) where
  pub run-append :
      (bits : List ℕ) (es fs : List Entry) (xs : List A) → run d bits (es ++ fs) xs ≡ run d bits fs (run d bits es xs)
  unfolding run
  run-append bits [] fs xs = refl
  run-append bits (e ∷ es) fs xs = run-append bits es fs (run_entry d bits e xs)

  run-layer :
      (at : Side → ℕ) (k c b : ℕ) (bits own : List ℕ) → Own bits b own → (xs : List A)
      → run d bits (layer_entries at b c) xs ≡ layer d (placed at) k c own xs
  unfolding layer_entries layer run run_entry
  run-layer at k zero b bits own h xs = refl
  run-layer at k (suc i) b bits own h xs =
      run-append bits (layer_entries at b i) (entry 7 (at (i, false)) (at (i, true)) (b + i) ∷ []) xs
      ∙ rw (run-layer at k i b bits own h xs, h i)

-- xs became ys: the item at each of m places came from the place that `from` says, and nothing else moved
record Carried {A : Type 0} (d : A) (m : ℕ) (place from : ℕ → ℕ) (xs ys : List A) : Type 0 where
  pub long : length ys ≡ length xs
  pub moved : (q : ℕ) → q < m → get_or ys (place q) d ≡ get_or xs (place (from q)) d
  pub others : (r : ℕ) → ((q : ℕ) → q < m → r ≢ place q) → get_or ys r d ≡ get_or xs r d

-- the places of a network of m places inside a list of n items
record Inside (m n : ℕ) (place : ℕ → ℕ) : Type 0 where
  pub below : (q : ℕ) → q < m → place q < n
  pub apart : (q r : ℕ) → q < m → r < m → place q ≡ place r → q ≡ r

module _ {A : Type 0} (d : A) {w : Wiring} (L : Lawful w) where
  module _ (m : ℕ) (place : ℕ → ℕ) where
    -- the place of a side
    abbrev at : Side → ℕ
    at p = place (w.enc (up m) p)

    module _ (n : ℕ) (i : Inside m n place) where
      laid_at : Laid m at n
      laid_at =
          record {
            below = λ p l. i.below (w.enc (up m) p) (lies_below L m p l);
            apart = λ p q lp lq e.
                (laid L m).apart p q lp lq
                (i.apart (w.enc (up m) p) (w.enc (up m) q) (lies_below L m p lp) (lies_below L m q lq) e);
          }

      inside_top : Inside (up m) n (λ j. at (j, false))
      inside_top =
          record {
            below = λ j h. laid_at.below (j, false) (lies_top m j h);
            apart = λ j r h g e. ap (λ (s : Side). s.0) (laid_at.apart (j, false) (r, false) (lies_top m j h) (lies_top m r g) e);
          }

      inside_bottom : Inside (down m) n (λ j. at (j, true))
      inside_bottom =
          record {
            below = λ j h. laid_at.below (j, true) (lies_both m (j, true) h);
            apart = λ j r h g e.
                ap (λ (s : Side). s.0) (laid_at.apart (j, true) (r, true) (lies_both m (j, true) h) (lies_both m (r, true) g) e);
          }

      -- the halves have no place in common
      halves_apart : (j r : ℕ) → j < up m → r < down m → at (j, false) ≢ at (r, true)
      halves_apart j r h g e =
          false≢true (ap (λ (s : Side). s.1) (laid_at.apart (j, false) (r, true) (lies_top m j h) (lies_both m (r, true) g) e))

      -- both halves together: `entered` before them, `middle` behind the top, `left` behind the bottom
      halves_carried :
          (entered middle left : List A) (f g : ℕ → ℕ) → Keeps m f g
          → Carried d (up m) (λ j. at (j, false)) f entered middle
          → Carried d (down m) (λ j. at (j, true)) g middle left
          → (p : Side) → Lies m p → get_or left (at p) d ≡ get_or entered (at (in_halves f g p)) d
      halves_carried entered middle left f g keeps top bottom p l = go p.0 p.1 l
        where
          go : (j : ℕ) (t : Bool) → Lies m (j, t) → get_or left (at (j, t)) d ≡ get_or entered (at (in_halves f g (j, t))) d
          go j false l =
              bottom.others (at (j, false)) (λ r h. halves_apart j r l.pair h) ∙ top.moved j l.pair
          go j true l =
              bottom.moved j (l.other refl)
              ∙ top.others (at (g j, true)) (λ r h e. halves_apart r (g j) h (keeps.on_bottom j (l.other refl)) (sym e))

    -- none of the network's places is one of a layer's
    layer-apart : (c r : ℕ) → c ≤ down m → ((q : ℕ) → q < m → r ≢ place q) → (p : Side) → p.0 < c → r ≢ at p
    layer-apart c r h away p l = away (w.enc (up m) p) (lies_below L m p (lies_both m p (omega arith)))

  -- one level: the halves being done as they should be, the whole is
  module _ (m n : ℕ) (top bottom : Network) (bits : List ℕ) (b : ℕ) (own : List ℕ) (reads : Own bits b own) (place : ℕ → ℕ)
      (i : Inside m n place) (xs : List A) (e : length xs ≡ n) where
    abbrev side : Side → ℕ
    side = at m place

    abbrev below : ℕ
    below = b + ((up m - 1) + switch_count top)

    abbrev tops : List Entry
    tops = switches w top (λ j. side (j, false)) (b + (up m - 1))

    abbrev bottoms : List Entry
    bottoms = switches w bottom (λ j. side (j, true)) below

    abbrev outputs : List Entry
    outputs = layer_entries side (below + switch_count bottom) (down m)

    abbrev entered : List A
    entered = layer d (placed side) (up m) (up m - 1) own xs

    abbrev middle : List A
    middle = run d bits tops entered

    abbrev left : List A
    left = run d bits bottoms middle

    abbrev done : List A
    done = layer d (placed side) (up m) (down m) (output_bits m top bottom own) left

    own_top : Own bits (b + (up m - 1)) (top_bits m own)
    own_top = own_drop bits own b reads (up m - 1) (b + (up m - 1)) refl

    own_bottom : Own bits below (bottom_bits m top own)
    own_bottom = own_drop bits (top_bits m own) (b + (up m - 1)) own_top (switch_count top) below (omega arith)

    own_outputs : Own bits (below + switch_count bottom) (output_bits m top bottom own)
    own_outputs = own_drop bits (bottom_bits m top own) below own_bottom (switch_count bottom) (below + switch_count bottom) refl

    level_is : run d bits (switches w (split m top bottom) place b) xs ≡ done
    unfolding switches
    level_is =
        run-append d bits (layer_entries side b (up m - 1)) (tops ++ (bottoms ++ outputs)) xs
        ∙ ap (run d bits (tops ++ (bottoms ++ outputs))) (run-layer d side (up m) (up m - 1) b bits own reads xs)
        ∙ run-append d bits tops (bottoms ++ outputs) entered
        ∙ run-append d bits bottoms outputs middle
        ∙ run-layer d side (up m) (down m) (below + switch_count bottom) bits (output_bits m top bottom own) own_outputs left

    level_carries :
        (f g : ℕ → ℕ) → Keeps m f g
        → Carried d (up m) (λ j. side (j, false)) f entered middle
        → Carried d (down m) (λ j. side (j, true)) g middle left
        → Carried d m place (through w (up m) (crosses (down m) (output_bits m top bottom own)) (in_halves f g) (crosses (up m - 1) own))
        xs done
    level_carries f g keeps mid low = record { long = same; moved = moves; others = stays }
      where
        out : List ℕ
        out = output_bits m top bottom own

        first : length entered ≡ n
        first = length-layer d (placed side) (up m) (up m - 1) own xs ∙ e

        last : length left ≡ n
        last = low.long ∙ mid.long ∙ first

        same : length done ≡ length xs
        same = length-layer d (placed side) (up m) (down m) out left ∙ last ∙ sym e

        moves :
            (q : ℕ) → q < m
            → get_or done (place q) d ≡ get_or xs (place (through w (up m) (crosses (down m) out) (in_halves f g) (crosses (up m - 1) own) q)) d
        moves q h =
            let s : Side = w.dec (up m) q in
            let p : Side = turned (crosses (down m) out) s in
            let lp = lies_turned m (down m) out s (omega arith) (below_lies L m q h) in
            ap (λ (z : ℕ). get_or done (place z) d) (sym (L.enc_dec (up m) q (omega arith)))
            ∙ layer-at d (placed side) (up m) m (down m) out left (rw last (laid_at m place n i)) (omega arith) s (below_lies L m q h)
            ∙ halves_carried m place n i entered middle left f g keeps mid low p lp
            ∙ layer-at d (placed side) (up m) m (up m - 1) own xs (rw e (laid_at m place n i)) (omega arith) (in_halves f g p)
            (lies_halves keeps p lp)

        stays : (r : ℕ) → ((q : ℕ) → q < m → r ≢ place q) → get_or done r d ≡ get_or xs r d
        stays r away =
            layer-other d (placed side) (up m) m (down m) out left r (layer-apart m place (down m) r (omega arith) away)
            ∙ low.others r (λ j h. away (w.enc (up m) (j, true)) (lies_below L m (j, true) (lies_both m (j, true) h)))
            ∙ mid.others r (λ j h. away (w.enc (up m) (j, false)) (lies_below L m (j, false) (lies_top m j h)))
            ∙ layer-other d (placed side) (up m) m (up m - 1) own xs r (layer-apart m place (up m - 1) r (omega arith) away)

  run_carries :
      {m : ℕ} {net : Network} → Sized m net → (n : ℕ) (bits : List ℕ) (b : ℕ) (own : List ℕ) → Own bits b own
      → (place : ℕ → ℕ) (xs : List A) → length xs ≡ n
      → Inside m n place → Carried d m place (came_from w net own) xs (run d bits (switches w net place b) xs)
  unfolding switches across run
  run_carries (none z) n bits b own h place xs e i =
      record { long = refl; moved = λ q g. refl; others = λ r g. refl }
  run_carries {m} (some {top = top} {bottom = bottom} two t u) n bits b own h place xs e i =
      let first : length (entered m n top bottom bits b own h place i xs e) ≡ n =
      length-layer d (placed (at m place)) (up m) (up m - 1) own xs ∙ e in
      let mid = run_carries t n bits (b + (up m - 1)) (top_bits m own) (own_top m n top bottom bits b own h place i xs e)
      (λ j. at m place (j, false)) (entered m n top bottom bits b own h place i xs e) first (inside_top m place n i) in
      let low = run_carries u n bits (below m n top bottom bits b own h place i xs e) (bottom_bits m top own)
      (own_bottom m n top bottom bits b own h place i xs e)
      (λ j. at m place (j, true)) (middle m n top bottom bits b own h place i xs e) (mid.long ∙ first) (inside_bottom m place n i) in
      rw (level_is m n top bottom bits b own h place i xs e)
      (level_carries m n top bottom bits b own h place i xs e
      (came_from w top (top_bits m own))
      (came_from w bottom (bottom_bits m top own))
      (record {
        on_top = across-below L output input t (top_bits m own);
        on_bottom = across-below L output input u (bottom_bits m top own);
      })
      mid
      low)

  -- 01, 'Running a log': what is left by running the entries of mixing is what the wiring leaves, forward
  pub run_apply :
      (n : ℕ) (bits : List ℕ) (xs : List A) → length xs ≡ n
      → run d bits (apply_entries w n) xs ≡ forward d w (network n) bits xs
  unfolding apply_entries
  run_apply n bits xs e =
      let own : Own bits 0 bits = λ z. ap (λ (j : ℕ). get_or bits j 0) (sym (zero-add z)) in
      let carried = run_carries (sized n) n bits 0 bits own (λ q. q) xs e (record { below = λ q h. h; apart = λ q r h g z. z }) in
      let ran = run d bits (switches w (network n) (λ q. q) 0) xs in
      ext_get_or d ran (forward d w (network n) bits xs) (carried.long ∙ e ∙ sym (length-forward d w n bits xs e))
      (λ q h.
      let below : q < n = omega (arith, carried.long) in
      carried.moved q below ∙ sym (forward-at d L n bits xs e q below))
