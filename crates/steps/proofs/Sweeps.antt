-- What the sweeps leave at a place: at the places that they sweep, and at every other.
-- Assumes nothing.
use mathlib.Core.Path.{◌≡◌, refl, ap, ◌∙◌}
use mathlib.Core.Logic.{◌≢◌}
use mathlib.Core.Bool.{Bool, true, false, not, cond, false≢true}
use mathlib.Core.List.{List}
use Prim.Native.Nat.{ℕ, zero, suc, ◌+◌, ◌≤◌, ◌<◌}
use native.Mathlib.Omega.{arith}
use native.Mathlib.Decide.{ℕ_discrete, dec_lt}
use lib.Dec.{ltb, eqb}
use lib.ListN.{length, get_or, set, length-set}
use lib.Seq.{get_or-set_same, get_or-set_other}
use borrow.Author.Tests.{lt-ltb, le-ltb, eq-eqb, ne_eqb}
use Rattle.network.specs.Wiring.{Side}
use Rattle.network.proofs.Shape.{length-switch}
use Rattle.network.proofs.Places.{switch-first, switch_second, switch-other}
use Rattle.steps.specs.Sweeps.{look, seek, store, each, act}
use Rattle.steps.proofs.Places.{Unlike}

-- ---- each of m places changed

module _ (place : ℕ → ℕ) (F : ℕ → ℕ → ℕ) (xs : List ℕ) where
  pub length-each : (m : ℕ) → length (each place m F xs) ≡ length xs
  unfolding each
  length-each zero = refl
  length-each (suc i) = simp length-set (length-each i)

  pub each_off : (m z : ℕ) → ((i : ℕ) → i < m → z ≢ place i) → get_or (each place m F xs) z 0 ≡ get_or xs z 0
  unfolding each
  each_off zero z d = refl
  each_off (suc i) z d =
      get_or-set_other (each place i F xs) (place i) z _ 0 (d i (omega arith)) ∙ each_off i z (λ j l. d j (omega arith))

  pub each_at : (m : ℕ) → Unlike m place → ((i : ℕ) → i < m → place i < length xs) → (i : ℕ) → i < m
      → get_or (each place m F xs) (place i) 0 ≡ F i (get_or xs (place i) 0)
  unfolding each Unlike
  each_at zero U room i l = absurd (omega arith)
  each_at (suc m) U room i l =
      go (ℕ_discrete i m) (each_at m (λ a b la lb. U a b (omega arith) (omega arith)) (λ j lj. room j (omega arith)) i)
    where
      apart : (j : ℕ) → j < m → place m ≢ place j
      apart j lj e = omega (arith, U m j (omega arith) (omega arith) e)

      go : Dec (i ≡ m) → (i < m → get_or (each place m F xs) (place i) 0 ≡ F i (get_or xs (place i) 0))
          → get_or (each place (suc m) F xs) (place i) 0 ≡ F i (get_or xs (place i) 0)
      go (yes e) ih =
          rw e
          (get_or-set_same (each place m F xs) (place m) _ 0 (omega (arith, length-each m, room m (omega arith)))
          ∙ ap (F m) (each_off m (place m) apart))
      go (no n) ih =
          get_or-set_other (each place m F xs) (place m) (place i) _ 0 (λ e. n (U i m (omega arith) (omega arith) e))
          ∙ ih (omega arith)

-- ---- switches

-- a side turned over where the bit is 1
abbrev pub turned : ℕ → Bool → Bool
turned bit t = cond (eqb bit 1) (not t) t

-- the sides of c pairs that lie apart
unfoldable pub SidesUnlike : ℕ → (Side → ℕ) → Type 0
SidesUnlike c at = (p q : Side) → p.0 < c → q.0 < c → at p ≡ at q → p ≡ q

module _ (at : Side → ℕ) (bits : List ℕ) (b : ℕ) (xs : List ℕ) where
  pub length-act : (c : ℕ) → length (act at bits b c xs) ≡ length xs
  unfolding act
  length-act zero = refl
  length-act (suc c) = length-switch 0 _ _ _ (act at bits b c xs) ∙ length-act c

  pub act_off : (c z : ℕ) → ((p : Side) → p.0 < c → z ≢ at p) → get_or (act at bits b c xs) z 0 ≡ get_or xs z 0
  unfolding act
  act_off zero z d = refl
  act_off (suc c) z d =
      switch-other 0 (at (c, false)) (at (c, true)) (get_or bits (b + c) 0) (act at bits b c xs) z
      (d (c, false) (omega arith))
      (d (c, true) (omega arith))
      ∙ act_off c z (λ p l. d p (omega arith))

  pub act-at : (c : ℕ) → SidesUnlike c at → ((p : Side) → p.0 < c → at p < length xs) → (i : ℕ) (t : Bool) → i < c
      → get_or (act at bits b c xs) (at (i, t)) 0 ≡ get_or xs (at (i, turned (get_or bits (b + i) 0) t)) 0
  unfolding act SidesUnlike
  act-at zero U room i t l = absurd (omega arith)
  act-at (suc c) U room i t l =
      go (ℕ_discrete i c) (act-at c (λ p q lp lq. U p q (omega arith) (omega arith)) (λ p lp. room p (omega arith)) i t)
    where
      ys : List ℕ
      ys = act at bits b c xs

      bit : ℕ
      bit = get_or bits (b + c) 0

      still : (u : Bool) → get_or ys (at (c, u)) 0 ≡ get_or xs (at (c, u)) 0
      still u =
          act_off c (at (c, u))
          (λ p lp e. omega (arith, ap (λ (r : Side). r.0) (U (c, u) p (omega arith) (omega arith) e)))

      room' : (u : Bool) → at (c, u) < length ys
      room' u = omega (arith, length-act c, room (c, u) (omega arith))

      two : at (c, false) ≢ at (c, true)
      two e = false≢true (ap (λ (r : Side). r.1) (U (c, false) (c, true) (omega arith) (omega arith) e))

      other : i ≢ c → (u : Bool) → at (i, t) ≢ at (c, u)
      other n u e = n (ap (λ (r : Side). r.0) (U (i, t) (c, u) (omega arith) (omega arith) e))

      pick : (s u v : Bool) → get_or ys (cond s (at (c, u)) (at (c, v))) 0 ≡ get_or xs (at (c, cond s u v)) 0
      pick true u v = still u
      pick false u v = still v

      last : (u : Bool) → get_or (act at bits b (suc c) xs) (at (c, u)) 0 ≡ get_or xs (at (c, turned bit u)) 0
      last false = switch-first 0 (at (c, false)) (at (c, true)) bit ys (room' false) two ∙ pick (eqb bit 1) true false
      last true = switch_second 0 (at (c, false)) (at (c, true)) bit ys (room' true) ∙ pick (eqb bit 1) false true

      go : Dec (i ≡ c) → (i < c → get_or ys (at (i, t)) 0 ≡ get_or xs (at (i, turned (get_or bits (b + i) 0) t)) 0)
          → get_or (act at bits b (suc c) xs) (at (i, t)) 0 ≡ get_or xs (at (i, turned (get_or bits (b + i) 0) t)) 0
      go (yes e) ih = rw e (last t)
      go (no n) ih =
          switch-other 0 (at (c, false)) (at (c, true)) bit ys (at (i, t)) (other n false) (other n true) ∙ ih (omega arith)

-- ---- store, look, seek

module _ (place : ℕ → ℕ) (m : ℕ) (p a : ℕ) (xs : List ℕ) where
  pub length-store : length (store place m p a xs) ≡ length xs
  unfolding store
  length-store = go (ltb p m)
    where
      go : (t : Bool) → length (cond t (set xs (place p) a) xs) ≡ length xs
      go true = length-set xs (place p) a
      go false = refl

  pub store_at : p < m → place p < length xs → get_or (store place m p a xs) (place p) 0 ≡ a
  unfolding store
  store_at l r = rw (lt-ltb p m l) (get_or-set_same xs (place p) a 0 r)

  pub store_off : (z : ℕ) → (p < m → z ≢ place p) → get_or (store place m p a xs) z 0 ≡ get_or xs z 0
  unfolding store
  store_off z d = go (dec_lt p m)
    where
      go : Dec (p < m) → get_or (cond (ltb p m) (set xs (place p) a) xs) z 0 ≡ get_or xs z 0
      go (yes l) = rw (lt-ltb p m l) (get_or-set_other xs (place p) z a 0 (d l))
      go (no l) = rw (le-ltb p m (omega arith))

module _ (place : ℕ → ℕ) (xs : List ℕ) where
  pub look_in : (m p : ℕ) → p < m → look place m xs p ≡ get_or xs (place p) 0
  unfolding look
  look_in m p l = rw (lt-ltb p m l)

  pub look_out : (m p : ℕ) → m ≤ p → look place m xs p ≡ p
  unfolding look
  look_out m p l = rw (le-ltb p m l)

  -- where r is the one place that may hold a: it is found, or a where it is none of the m
  pub seek-to : (a r m : ℕ) → ((q : ℕ) → q < m → get_or xs (place q) 0 ≡ a → q ≡ r) → (r < m → get_or xs (place r) 0 ≡ a)
      → seek place m xs a ≡ cond (ltb r m) r a
  unfolding seek
  seek-to a r zero h e = rw (le-ltb r zero (omega arith))
  seek-to a r (suc m) h e =
      go (seek-to a r m (λ q l. h q (omega arith)) (λ l. e (omega arith))) (ℕ_discrete m r) (dec_lt r m)
    where
      other : m ≢ r → eqb (get_or xs (place m) 0) a ≡ false
      other d = ne_eqb (get_or xs (place m) 0) a (λ u. d (h m (omega arith) u))

      go : seek place m xs a ≡ cond (ltb r m) r a → Dec (m ≡ r) → Dec (r < m)
          → cond (eqb (get_or xs (place m) 0) a) m (seek place m xs a) ≡ cond (ltb r (suc m)) r a
      go ih (yes d) z =
          rw (eq-eqb (get_or xs (place m) 0) a (ap (λ q. get_or xs (place q) 0) d ∙ e (omega arith)), lt-ltb r (suc m) (omega arith)) d
      go ih (no d) (yes z) = rw (other d, ih, lt-ltb r m z, lt-ltb r (suc m) (omega arith))
      go ih (no d) (no z) = rw (other d, ih, le-ltb r m (omega arith), le-ltb r (suc m) (omega arith))
