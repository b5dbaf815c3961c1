-- What a sweep leaves stays as small as what it found.
-- Assumes nothing.
use mathlib.Core.Bool.{Bool, true, false, cond}
use mathlib.Core.List.{List, [], ◌∷◌}
use Prim.Native.Nat.{ℕ, zero, suc, ◌+◌, ◌≤◌, ◌<◌}
use native.Mathlib.Omega.{arith}
use lib.Dec.{ltb, eqb}
use lib.ListN.{get_or, set}
use Rattle.network.specs.Wiring.{Side}
use Rattle.network.specs.Move.{switch}
use Rattle.steps.specs.Sweeps.{seek, store, each, act}
use Rattle.control_sweeps.specs.Tables.{Below, Within}

-- ---- tables

module _ (b : ℕ) where
  set_below : (xs : List ℕ) (p v z : ℕ) → get_or xs z 0 < b → v < b → get_or (set xs p v) z 0 < b
  set_below [] p v z h l = h
  set_below (x ∷ xs) zero v zero h l = l
  set_below (x ∷ xs) zero v (suc z) h l = h
  set_below (x ∷ xs) (suc p) v zero h l = h
  set_below (x ∷ xs) (suc p) v (suc z) h l = set_below xs p v z h l

  pub store_below : (place : ℕ → ℕ) (m p a : ℕ) (xs : List ℕ) → Below b xs → a < b → Below b (store place m p a xs)
  unfolding Below store
  store_below place m p a xs h l = go (ltb p m)
    where
      go : (t : Bool) (z : ℕ) → get_or (cond t (set xs (place p) a) xs) z 0 < b
      go true z = set_below xs (place p) a z (h z) l
      go false z = h z

  -- what a sweep puts at each place is below b, if so is what the table held
  pub each_below : (place : ℕ → ℕ) (m : ℕ) (F : ℕ → ℕ → ℕ) (xs : List ℕ) → Below b xs → ((i x : ℕ) → x < b → F i x < b)
      → Below b (each place m F xs)
  unfolding Below each
  each_below place zero F xs h f z = h z
  each_below place (suc m) F xs h f z =
      let before : (y : ℕ) → get_or (each place m F xs) y 0 < b = each_below place m F xs h f in
      set_below (each place m F xs) (place m) _ z (before z) (f m _ (before (place m)))

-- the same of the places that are swept alone
module _ (place : ℕ → ℕ) (m b : ℕ) where
  switch_within : (p q bit : ℕ) (xs : List ℕ) → get_or xs p 0 < b → get_or xs q 0 < b → Within place m b xs → Within place m b
      (switch 0 p q bit xs)
  unfolding Within switch
  switch_within p q bit xs hp hq h i l = go (eqb bit 1)
    where
      go : (t : Bool) → get_or (cond t (set (set xs p (get_or xs q 0)) q (get_or xs p 0)) xs) (place i) 0 < b
      go true = set_below b (set xs p (get_or xs q 0)) q (get_or xs p 0) (place i) (set_below b xs p (get_or xs q 0) (place i) (h i l) hq) hp
      go false = h i l

  pub act_within : (side : Side → ℕ) (bits : List ℕ) (n c : ℕ) (xs : List ℕ) → ((i : ℕ) (t : Bool) → i < c → side (i, t) < m)
      → Within place m b xs → Within place m b (act (λ p. place (side p)) bits n c xs)
  unfolding act Within
  act_within side bits n zero xs real h = h
  act_within side bits n (suc c) xs real h =
      let ys = act (λ p. place (side p)) bits n c xs in
      let W : Within place m b ys = act_within side bits n c xs (λ i t l. real i t (omega arith)) h in
      switch_within (place (side (c, false))) (place (side (c, true))) (get_or bits (n + c) 0) ys (W _ (real c false (omega arith)))
      (W _ (real c true (omega arith))) W

-- ---- numbers

pub pick-below : (b : Bool) {x y n : ℕ} → x < n → y < n → cond b x y < n
pick-below true h g = h
pick-below false h g = g

pub seek-below : (place : ℕ → ℕ) (m : ℕ) (xs : List ℕ) (a : ℕ) → m ≤ 1024 → a < 32768 → seek place m xs a < 32768
unfolding seek
seek-below place zero xs a h l = l
seek-below place (suc m) xs a h l = pick-below (eqb (get_or xs (place m) 0) a) (omega arith) (seek-below place m xs a (omega arith) l)
