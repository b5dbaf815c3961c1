-- Which sides of the pairs lie in a network of m places, and what a layer of switches does at each of them.
-- Assumes nothing.
use mathlib.Core.Bool.{Bool, true, false, not, cond, false≢true}
use mathlib.Core.Path.{◌≡◌, refl, sym, ap, ◌∙◌, subst}
use mathlib.Core.Logic.{◌≢◌}
use mathlib.Core.List.{List}
use Prim.Native.Nat.{ℕ, suc, ◌+◌, ◌≤◌, ◌<◌}
use native.Mathlib.Omega.{arith}
use native.Mathlib.Decide.{dec_lt}
use lib.Dec.{ltb, eqb}
use lib.ListN.{length, get_or, set, length-set}
use lib.Seq.{get_or-set_same, get_or-set_other}
use borrow.Author.Tests.{lt-ltb, le-ltb}
use Rattle.counts.specs.Counts.{up}
use Rattle.network.specs.Wiring.{Wiring, Lawful, Side}
use Rattle.network.specs.Network.{down}
use Rattle.network.specs.Move.{switch}

-- the other side where the second is true
abbrev pub flipped : Bool → Bool → Bool
flipped t false = t
flipped t true = not t

pub flipped-twice : (t b : Bool) → flipped (flipped t b) b ≡ t
flipped-twice t false = refl
flipped-twice false true = refl
flipped-twice true true = refl

-- whether a layer of c switches exchanges the items of pair i
unfoldable pub crosses : ℕ → List ℕ → ℕ → Bool
crosses c bits i = cond (ltb i c) (eqb (get_or bits i 0) 1) false

pub crosses_in : (c : ℕ) (bits : List ℕ) (i : ℕ) → i < c → crosses c bits i ≡ eqb (get_or bits i 0) 1
unfolding crosses
crosses_in c bits i h = rw (lt-ltb i c h)

pub crosses-past : (c : ℕ) (bits : List ℕ) (i : ℕ) → c ≤ i → crosses c bits i ≡ false
unfolding crosses
crosses-past c bits i h = rw (le-ltb i c h)

-- another switch does not touch pair j
pub crosses-other : (c : ℕ) (bits : List ℕ) (j : ℕ) → j ≢ c → crosses c bits j ≡ crosses (suc c) bits j
crosses-other c bits j h = go (dec_lt j c)
  where
    go : Dec (j < c) → crosses c bits j ≡ crosses (suc c) bits j
    go (yes l) = crosses_in c bits j l ∙ sym (crosses_in (suc c) bits j (omega arith))
    go (no l) = crosses-past c bits j (omega arith) ∙ sym (crosses-past (suc c) bits j (omega arith))

-- the side from which the item at a side comes, through switches that exchange the pairs where `b` says so
abbrev pub turned : (ℕ → Bool) → Side → Side
turned b p = (p.0, flipped p.1 (b p.0))

pub turned-twice : (b : ℕ → Bool) (p : Side) → turned b (turned b p) ≡ p
turned-twice b p = λ i. (p.0, flipped-twice p.1 (b p.0) i)

-- the sides that have a place: for an odd size the last pair's other side is imagined
pub record Lies (m : ℕ) (p : Side) : Type 0 where
  pub pair : p.0 < up m
  pub other : p.1 ≡ true → p.0 < down m

pub lies_top : (m i : ℕ) → i < up m → Lies m (i, false)
lies_top m i h = record { pair = h; other = λ e. absurd (false≢true e) }

pub lies_both : (m : ℕ) (p : Side) → p.0 < down m → Lies m p
lies_both m p h = record { pair = omega arith; other = λ e. h }

-- a layer of a network keeps the sides that have a place among themselves
pub lies_turned :
    (m c : ℕ) (bits : List ℕ) (p : Side) → c ≤ down m → Lies m p → Lies m (turned (crosses c bits) p)
lies_turned m c bits p h l = go (dec_lt p.0 c)
  where
    go : Dec (p.0 < c) → Lies m (turned (crosses c bits) p)
    go (yes g) = lies_both m (turned (crosses c bits) p) (omega arith)
    go (no g) = rw (crosses-past c bits p.0 (omega arith)) l

module _ {w : Wiring} (L : Lawful w) where
  pub enc_apart : (k : ℕ) (p q : Side) → p.0 < k → q.0 < k → w.enc k p ≡ w.enc k q → p ≡ q
  enc_apart k p q h g e = sym (L.dec_enc k p h) ∙ ap (w.dec k) e ∙ L.dec_enc k q g

  -- the imagined place of an odd size
  last : (m : ℕ) → suc m ≡ up m + up m → w.enc (up m) (down m, true) ≡ m
  last m e =
      let k : suc (down m) ≡ up m = omega arith in
      subst (λ (n : ℕ). w.enc n (down m, true) ≡ down m + n) k (L.enc_last (down m)) ∙ omega arith

  pub lies_below : (m : ℕ) (p : Side) → Lies m p → w.enc (up m) p < m
  lies_below m p l = go (dec_lt (w.enc (up m) p) m)
    where
      go : Dec (w.enc (up m) p < m) → w.enc (up m) p < m
      go (yes h) = h
      go (no h) =
          let below = L.enc< (up m) p l.pair in
          let odd : suc m ≡ up m + up m = omega arith in
          let is : w.enc (up m) p ≡ m = omega arith in
          let e : p ≡ (down m, true) = enc_apart (up m) p (down m, true) l.pair (omega arith) (is ∙ sym (last m odd)) in
          absurd (omega (arith, l.other (ap (λ (s : Side). s.1) e), ap (λ (s : Side). s.0) e))

  pub below_lies : (m q : ℕ) → q < m → Lies m (w.dec (up m) q)
  below_lies m q h = record { pair = first; other = λ e. go e (dec_lt (w.dec (up m) q).0 (down m)) }
    where
      first : (w.dec (up m) q).0 < up m
      first = L.dec< (up m) q (omega arith)

      go : (w.dec (up m) q).1 ≡ true → Dec ((w.dec (up m) q).0 < down m) → (w.dec (up m) q).0 < down m
      go e (yes l) = l
      go e (no l) =
          let odd : suc m ≡ up m + up m = omega (arith, first) in
          let is : (w.dec (up m) q).0 ≡ down m = omega (arith, first) in
          let side : w.dec (up m) q ≡ (down m, true) = λ i. (is i, e i) in
          absurd (omega (
            arith,
            sym (L.enc_dec (up m) q (omega arith)) ∙ ap (w.enc (up m)) side ∙ last m odd,
          ))

-- the sides of a network of m places lie at places of their own, all below n
pub record Laid (m : ℕ) (at : Side → ℕ) (n : ℕ) : Type 0 where
  pub below : (p : Side) → Lies m p → at p < n
  pub apart : (p q : Side) → Lies m p → Lies m q → at p ≡ at q → p ≡ q

pub laid : {w : Wiring} → Lawful w → (m : ℕ) → Laid m (w.enc (up m)) m
laid L m = record { below = lies_below L m; apart = λ p q h g. enc_apart L (up m) p q h.pair g.pair }

module _ {A : Type 0} (d : A) where
  pub switch-first :
      (p q bit : ℕ) (xs : List A) → p < length xs → p ≢ q
      → get_or (switch d p q bit xs) p d ≡ get_or xs (cond (eqb bit 1) q p) d
  unfolding switch
  switch-first p q bit xs h ne = go (eqb bit 1)
    where
      go : (b : Bool) → get_or (cond b (set (set xs p (get_or xs q d)) q (get_or xs p d)) xs) p d ≡ get_or xs (cond b q p) d
      go true =
          get_or-set_other (set xs p (get_or xs q d)) q p (get_or xs p d) d ne
          ∙ get_or-set_same xs p (get_or xs q d) d h
      go false = refl

  pub switch_second :
      (p q bit : ℕ) (xs : List A) → q < length xs
      → get_or (switch d p q bit xs) q d ≡ get_or xs (cond (eqb bit 1) p q) d
  unfolding switch
  switch_second p q bit xs h = go (eqb bit 1)
    where
      go : (b : Bool) → get_or (cond b (set (set xs p (get_or xs q d)) q (get_or xs p d)) xs) q d ≡ get_or xs (cond b p q) d
      go true = get_or-set_same (set xs p (get_or xs q d)) q (get_or xs p d) d (rw length-set h)
      go false = refl

  pub switch-other :
      (p q bit : ℕ) (xs : List A) (r : ℕ) → r ≢ p → r ≢ q
      → get_or (switch d p q bit xs) r d ≡ get_or xs r d
  unfolding switch
  switch-other p q bit xs r a b = go (eqb bit 1)
    where
      go : (t : Bool) → get_or (cond t (set (set xs p (get_or xs q d)) q (get_or xs p d)) xs) r d ≡ get_or xs r d
      go true =
          get_or-set_other (set xs p (get_or xs q d)) q r (get_or xs p d) d b
          ∙ get_or-set_other xs p r (get_or xs q d) d a
      go false = refl
