-- What a layer of switches leaves at each place, forward or back. The places of its pairs are any that lie apart: those of
-- a lawful wiring, or those of a network inside another.
-- Assumes nothing.
use mathlib.Core.Bool.{Bool, true, false, cond, false≢true}
use mathlib.Core.Path.{◌≡◌, refl, sym, ap, ◌∙◌}
use mathlib.Core.Logic.{◌≢◌}
use mathlib.Core.List.{List, [], ◌∷◌, ◌++◌}
use Prim.Native.Nat.{ℕ, zero, suc, ◌≤◌, ◌<◌}
use native.Mathlib.Omega.{arith}
use native.Mathlib.Decide.{ℕ_discrete}
use lib.Dec.{eqb}
use lib.ListN.{length, get_or, get_or-append}
use lib.Seq.{get_or_at}
use Rattle.network.specs.Wiring.{Wiring, Side}
use Rattle.network.specs.Network.{down}
use Rattle.network.specs.Move.{switch, layer, layer_back, part, joined}
use Rattle.network.proofs.Shape.{length-switch, length-layer, length_part, length-joined}
use Rattle.network.proofs.Places.{Lies, Laid, lies_both, lies_turned, flipped, turned, crosses, crosses_in, crosses-past, crosses-other, switch-first, switch_second, switch-other}

module _ {A : Type 0} (d : A) (w : Wiring) (k m : ℕ) where
  -- switch i of a layer
  abbrev one : ℕ → List ℕ → List A → List A
  one i bits xs = switch d (w.enc k (i, false)) (w.enc k (i, true)) (get_or bits i 0) xs

  module _ (i : ℕ) (bits : List ℕ) (xs : List A) (l : Laid m (w.enc k) (length xs)) (h : i < down m) where
    -- at its own pair
    one_own : (t : Bool) → get_or (one i bits xs) (w.enc k (i, t)) d ≡ get_or xs (w.enc k (i, flipped t (eqb (get_or bits i 0) 1))) d
    one_own false =
        switch-first d (w.enc k (i, false)) (w.enc k (i, true)) (get_or bits i 0) xs
        (l.below (i, false) (lies_both m (i, false) h))
        (λ e. false≢true (ap (λ (s : Side). s.1) (l.apart (i, false) (i, true) (lies_both m (i, false) h) (lies_both m (i, true) h) e)))
        ∙ go (eqb (get_or bits i 0) 1)
      where
        go : (b : Bool) → get_or xs (cond b (w.enc k (i, true)) (w.enc k (i, false))) d ≡ get_or xs (w.enc k (i, flipped false b)) d
        go true = refl
        go false = refl
    one_own true =
        switch_second d (w.enc k (i, false)) (w.enc k (i, true)) (get_or bits i 0) xs
        (l.below (i, true) (lies_both m (i, true) h))
        ∙ go (eqb (get_or bits i 0) 1)
      where
        go : (b : Bool) → get_or xs (cond b (w.enc k (i, false)) (w.enc k (i, true))) d ≡ get_or xs (w.enc k (i, flipped true b)) d
        go true = refl
        go false = refl

    -- at another
    one-other : (p : Side) → Lies m p → p.0 ≢ i → get_or (one i bits xs) (w.enc k p) d ≡ get_or xs (w.enc k p) d
    one-other p lp ne = switch-other d (w.enc k (i, false)) (w.enc k (i, true)) (get_or bits i 0) xs (w.enc k p) (away false) (away true)
      where
        away : (t : Bool) → w.enc k p ≢ w.enc k (i, t)
        away t e = ne (ap (λ (s : Side). s.0) (l.apart p (i, t) lp (lies_both m (i, t) h) e))

  -- the side from which the item at p comes, after the switches below c
  abbrev from : ℕ → List ℕ → Side → ℕ
  from c bits p = w.enc k (turned (crosses c bits) p)

  from_past : (c : ℕ) (bits : List ℕ) (p : Side) → c ≤ p.0 → from c bits p ≡ w.enc k p
  from_past c bits p h = ap (λ (b : Bool). w.enc k (p.0, flipped p.1 b)) (crosses-past c bits p.0 h)

  from_next : (i : ℕ) (bits : List ℕ) (t : Bool) → w.enc k (i, flipped t (eqb (get_or bits i 0) 1)) ≡ from (suc i) bits (i, t)
  from_next i bits t = ap (λ (b : Bool). w.enc k (i, flipped t b)) (sym (crosses_in (suc i) bits i (omega arith)))

  from-other : (i : ℕ) (bits : List ℕ) (p : Side) → p.0 ≢ i → from i bits p ≡ from (suc i) bits p
  from-other i bits p ne = ap (λ (b : Bool). w.enc k (p.0, flipped p.1 b)) (crosses-other i bits p.0 ne)

  pub layer-at :
      (c : ℕ) (bits : List ℕ) (xs : List A) → Laid m (w.enc k) (length xs) → c ≤ down m
      → (p : Side) → Lies m p → get_or (layer d w k c bits xs) (w.enc k p) d ≡ get_or xs (from c bits p) d
  unfolding layer
  layer-at zero bits xs l h p lp = ap (λ (z : ℕ). get_or xs z d) (sym (from_past 0 bits p (omega arith)))
  layer-at (suc i) bits xs l h p lp = go p.0 p.1 lp (ℕ_discrete p.0 i) (λ t. layer-at i bits xs l (omega arith) t)
    where
      ys : List A
      ys = layer d w k i bits xs

      kept : Laid m (w.enc k) (length ys)
      kept = rw length-layer l

      go :
          (j : ℕ) (t : Bool) → Lies m (j, t) → Dec (j ≡ i)
          → ((r : Side) → Lies m r → get_or ys (w.enc k r) d ≡ get_or xs (from i bits r) d)
          → get_or (one i bits ys) (w.enc k (j, t)) d ≡ get_or xs (from (suc i) bits (j, t)) d
      go j t lj (yes e) before =
          let b : Bool = flipped t (eqb (get_or bits i 0) 1) in
          rw e
          (one_own i bits ys kept h t ∙ before (i, b) (lies_both m (i, b) h)
          ∙ ap (λ (z : ℕ). get_or xs z d) (from_past i bits (i, b) (omega arith) ∙ from_next i bits t))
      go j t lj (no ne) before =
          one-other i bits ys kept h (j, t) lj ne ∙ before (j, t) lj ∙ ap (λ (z : ℕ). get_or xs z d) (from-other i bits (j, t) ne)

  pub layer_back-at :
      (c : ℕ) (bits : List ℕ) (xs : List A) → Laid m (w.enc k) (length xs) → c ≤ down m
      → (p : Side) → Lies m p → get_or (layer_back d w k c bits xs) (w.enc k p) d ≡ get_or xs (from c bits p) d
  unfolding layer_back
  layer_back-at zero bits xs l h p lp = ap (λ (z : ℕ). get_or xs z d) (sym (from_past 0 bits p (omega arith)))
  layer_back-at (suc i) bits xs l h p lp =
      layer_back-at i bits (one i bits xs) kept (omega arith) p lp ∙ go p.0 p.1 lp (ℕ_discrete p.0 i)
    where
      kept : Laid m (w.enc k) (length (one i bits xs))
      kept = rw length-switch l

      go :
          (j : ℕ) (t : Bool) → Lies m (j, t) → Dec (j ≡ i)
          → get_or (one i bits xs) (from i bits (j, t)) d ≡ get_or xs (from (suc i) bits (j, t)) d
      go j t lj (yes e) =
          rw (e, from_past i bits (i, t) (omega arith)) (one_own i bits xs l h t ∙ ap (λ (z : ℕ). get_or xs z d) (from_next i bits t))
      go j t lj (no ne) =
          one-other i bits xs l h (turned (crosses i bits) (j, t)) (lies_turned m i bits (j, t) (omega arith) lj) ne
          ∙ ap (λ (z : ℕ). get_or xs z d) (from-other i bits (j, t) ne)

  -- a place that is none of the layer's keeps its item
  pub layer-other :
      (c : ℕ) (bits : List ℕ) (xs : List A) (r : ℕ) → ((p : Side) → p.0 < c → r ≢ w.enc k p)
      → get_or (layer d w k c bits xs) r d ≡ get_or xs r d
  unfolding layer
  layer-other zero bits xs r h = refl
  layer-other (suc i) bits xs r h =
      switch-other d (w.enc k (i, false)) (w.enc k (i, true)) (get_or bits i 0) (layer d w k i bits xs) r
      (h (i, false) (omega arith))
      (h (i, true) (omega arith))
      ∙ layer-other i bits xs r (λ p l. h p (omega arith))

module _ {A : Type 0} (d : A) (w : Wiring) (k : ℕ) where
  pub part_at :
      (t : Bool) (c : ℕ) (xs : List A) (i : ℕ) → i < c → get_or (part d w k t c xs) i d ≡ get_or xs (w.enc k (i, t)) d
  unfolding part
  part_at t zero xs i h = absurd (omega arith)
  part_at t (suc c) xs i h = go (ℕ_discrete i c) (part_at t c xs i)
    where
      go :
          Dec (i ≡ c) → (i < c → get_or (part d w k t c xs) i d ≡ get_or xs (w.enc k (i, t)) d)
          → get_or (part d w k t c xs ++ (get_or xs (w.enc k (c, t)) d ∷ [])) i d ≡ get_or xs (w.enc k (i, t)) d
      go (yes e) before = rw e (get_or_at (part d w k t c xs) (get_or xs (w.enc k (c, t)) d) [] d c (length_part d w k t c xs))
      go (no e) before =
          get_or-append (part d w k t c xs) (get_or xs (w.enc k (c, t)) d ∷ []) d i (rw length_part (omega arith))
          ∙ before (omega arith)

  pub joined_at :
      (m : ℕ) (top bottom : List A) (q : ℕ) → q < m
      → get_or (joined d w k m top bottom) q d ≡ get_or (cond (w.dec k q).1 bottom top) (w.dec k q).0 d
  unfolding joined
  joined_at zero top bottom q h = absurd (omega arith)
  joined_at (suc m) top bottom q h = go (ℕ_discrete q m) (joined_at m top bottom q)
    where
      new : A
      new = get_or (cond (w.dec k m).1 bottom top) (w.dec k m).0 d

      go :
          Dec (q ≡ m)
          → (q < m → get_or (joined d w k m top bottom) q d ≡ get_or (cond (w.dec k q).1 bottom top) (w.dec k q).0 d)
          → get_or (joined d w k m top bottom ++ (new ∷ [])) q d ≡ get_or (cond (w.dec k q).1 bottom top) (w.dec k q).0 d
      go (yes e) before = rw e (get_or_at (joined d w k m top bottom) new [] d m (length-joined d w k m top bottom))
      go (no e) before =
          get_or-append (joined d w k m top bottom) (new ∷ []) d q (rw length-joined (omega arith)) ∙ before (omega arith)
