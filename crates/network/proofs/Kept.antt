-- What every exchange of two items keeps, mixing and returning keep, in every lawful wiring and whatever the bits.
-- Assumes nothing.
use mathlib.Core.Bool.{Bool, true, false, cond}
use mathlib.Core.Path.{◌≡◌, refl, sym, ap, ◌∙◌}
use mathlib.Core.List.{List, [], ◌∷◌, ◌++◌}
use Prim.Native.Nat.{ℕ, suc, ◌-◌, ◌*◌, ◌<◌}
use native.Mathlib.Omega.{arith}
use native.Mathlib.Decide.{dec_lt}
use lib.Dec.{eqb}
use lib.ListN.{length, get_or, take, drop, length-append, length-drop, take-append-drop}
use lib.Seq.{get_or-append_seam, set-append_seam, drop-cons, length-take-le, set_comm, set-get_or}
use borrow.Author.Tests.{eqb-true}
use Rattle.network.specs.Wiring.{Wiring, Lawful}
use Rattle.network.specs.Network.{network}
use Rattle.network.specs.Move.{switch, Kept, forward, backward}
use Rattle.network.specs.Blocks.{cut, moved, moved_back}
use Rattle.network.specs.Log.{Entry, run_entry, run}
use Rattle.network.proofs.Shape.{length-backward}
use Rattle.network.proofs.Blocks.{length_cut}
use Rattle.network.proofs.Undo.{forward-backward}
use Rattle.network.proofs.Moved.{cut_moved, cut-moved_back, length_moved, length-moved_back}
use Rattle.network.proofs.Run.{run_apply}
use Rattle.network.proofs.RunBack.{Below, empty, also, below_apply, length-run_entry}

-- ---- a switch

module _ {A : Type 0} (d : A) where
  -- bit 1 exchanges two items of a list
  pub swap_two :
      (e m z : List A) (x y : A)
      → switch d (length e) (length (e ++ (x ∷ m))) 1 (e ++ (x ∷ (m ++ (y ∷ z)))) ≡ e ++ (y ∷ (m ++ (x ∷ z)))
  unfolding switch
  swap_two [] m z x y = λ k. get_or-append_seam m y z d k ∷ set-append_seam m y z x k
  swap_two (c ∷ e) m z x y = ap (λ l. c ∷ l) (swap_two e m z x y)

  -- another bit leaves the list
  pub switch-left : (p q bit : ℕ) (xs : List A) → eqb bit 1 ≡ false → switch d p q bit xs ≡ xs
  unfolding switch
  switch-left p q bit xs h = rw (switch, h)

  switch-turned : (p q : ℕ) (xs : List A) → p < q → switch d q p 1 xs ≡ switch d p q 1 xs
  unfolding switch
  switch-turned p q xs h = set_comm xs q p (get_or xs p d) (get_or xs q d) (λ same. omega arith)

  switch_none : (p : ℕ) (xs : List A) → switch d p p 1 xs ≡ xs
  unfolding switch
  switch_none p xs = rw (set-get_or xs p d) (set-get_or xs p d)

-- ---- an exchange of two places of a list

-- where it is so of two items of a list that is taken apart
module _
    {A : Type 0} (d : A) {B : Type 0} (F : List A → B)
    (alike : (e m z : List A) (x y : A) → F (e ++ (x ∷ (m ++ (y ∷ z)))) ≡ F (e ++ (y ∷ (m ++ (x ∷ z)))))
  where
    rising : (p q : ℕ) (xs : List A) → p < q → q < length xs → F (switch d p q 1 xs) ≡ F xs
    rising p q xs h l =
        let e = take p xs in
        let x = get_or xs p d in
        let rest = drop (suc p) xs in
        let g = q - suc p in
        let m = take g rest in
        let y = get_or rest g d in
        let z = drop (suc g) rest in
        let long : length rest ≡ length xs - suc p = length-drop (suc p) xs in
        let behind : rest ≡ m ++ (y ∷ z) = sym (take-append-drop g rest) ∙ ap (λ u. m ++ u) (drop-cons rest g d (omega arith)) in
        let whole : xs ≡ e ++ (x ∷ (m ++ (y ∷ z))) =
        sym (take-append-drop p xs) ∙ ap (λ u. e ++ u) (drop-cons xs p d (omega arith)) ∙ ap (λ u. e ++ (x ∷ u)) behind in
        let first : p ≡ length e = sym (length-take-le p xs (omega arith)) in
        let second : q ≡ length (e ++ (x ∷ m)) =
        omega (arith, length-append e (x ∷ m), length-take-le p xs (omega arith), length-take-le g rest (omega arith)) in
        ap F
        (ap (switch d p q 1) whole ∙ (λ i. switch d (first i) (second i) 1 (e ++ (x ∷ (m ++ (y ∷ z))))) ∙ swap_two d e m z x y)
        ∙ sym (alike e m z x y)
        ∙ ap F (sym whole)

    pub swaps_keep : Kept d F
    swaps_keep p q xs hp hq = go (dec_lt p q) (dec_lt q p)
      where
        go : Dec (p < q) → Dec (q < p) → F (switch d p q 1 xs) ≡ F xs
        go (yes h) g = rising p q xs h hq
        go (no h) (yes g) = ap F (switch-turned d q p xs g) ∙ rising q p xs g hp
        go (no h) (no g) =
            let same : p ≡ q = omega arith in
            ap F (ap (λ (r : ℕ). switch d p r 1 xs) (sym same) ∙ switch_none d p xs)

-- what is made item by item, by steps whose sequence does not matter, is so
module _
    {A B : Type 0} (F : List A → B) (step : A → B → B) (front : (x : A) (xs : List A) → F (x ∷ xs) ≡ step x (F xs))
    (turned : (x y : A) (b : B) → step x (step y b) ≡ step y (step x b))
  where
    -- an item is as good in front
    pulled : (m z : List A) (x : A) → F (m ++ (x ∷ z)) ≡ step x (F (m ++ z))
    pulled [] z x = front x z
    pulled (c ∷ m) z x =
        front c (m ++ (x ∷ z)) ∙ ap (step c) (pulled m z x) ∙ turned c x (F (m ++ z)) ∙ ap (step x) (sym (front c (m ++ z)))

    pub steps_alike : (e m z : List A) (x y : A) → F (e ++ (x ∷ (m ++ (y ∷ z)))) ≡ F (e ++ (y ∷ (m ++ (x ∷ z))))
    steps_alike [] m z x y =
        front x (m ++ (y ∷ z)) ∙ ap (step x) (pulled m z y) ∙ turned x y (F (m ++ z)) ∙ ap (step y) (sym (pulled m z x))
        ∙ sym (front y (m ++ (x ∷ z)))
    steps_alike (c ∷ e) m z x y =
        front c (e ++ (x ∷ (m ++ (y ∷ z)))) ∙ ap (step c) (steps_alike e m z x y) ∙ sym (front c (e ++ (y ∷ (m ++ (x ∷ z)))))

-- ---- mixing and returning

module _ {A : Type 0} (d : A) {B : Type 0} (F : List A → B) (keeps : Kept d F) where
  entry_keeps : (bits : List ℕ) (e : Entry) (xs : List A) → e.first < length xs → e.second < length xs → F (run_entry d bits e xs) ≡ F xs
  unfolding run_entry
  entry_keeps bits e xs p q = go (eqb e.kind 7) (eqb bit 1) refl
    where
      bit : ℕ
      bit = get_or bits e.bit 0

      go : (b t : Bool) → eqb bit 1 ≡ t → F (cond b (switch d e.first e.second bit xs) xs) ≡ F xs
      go true true o = ap (λ (s : ℕ). F (switch d e.first e.second s xs)) (eqb-true bit 1 o) ∙ keeps e.first e.second xs p q
      go true false o = ap F (switch-left d e.first e.second bit xs o)
      go false t o = refl

  run_keeps :
      (bits : List ℕ) {n : ℕ} {es : List Entry} → Below n es → (xs : List A) → length xs ≡ n
      → F (run d bits es xs) ≡ F xs
  unfolding run
  run_keeps bits empty xs l = refl
  run_keeps bits (also {e = e} {es = es} p q b) xs l =
      run_keeps bits b (run_entry d bits e xs) (length-run_entry d bits e xs ∙ l)
      ∙ entry_keeps bits e xs (omega arith) (omega arith)

  module _ {w : Wiring} (L : Lawful w) (n : ℕ) (bits : List ℕ) where
    pub forward_keeps : (xs : List A) → length xs ≡ n → F (forward d w (network n) bits xs) ≡ F xs
    forward_keeps xs e = ap F (sym (run_apply d L n bits xs e)) ∙ run_keeps bits (below_apply L n) xs e

    -- mixing what was returned gives back what it was
    pub backward_keeps : (xs : List A) → length xs ≡ n → F (backward d w (network n) bits xs) ≡ F xs
    backward_keeps xs e =
        let ys = backward d w (network n) bits xs in
        sym (forward_keeps ys (length-backward d w n bits xs e)) ∙ ap F (forward-backward d L n bits xs e)

-- what bytes tell (G) by no more than their length and what their blocks keep (F), mix and return keep
module _
    {B C : Type 0} (F : List (List ℕ) → B) (keeps : Kept [] F) (G : List ℕ → C) (n width : ℕ) (bytes : List ℕ)
    (full : length bytes ≡ n * width)
    (by : (left : List ℕ) → length left ≡ n * width → F (cut width n left) ≡ F (cut width n bytes) → G left ≡ G bytes)
    {w : Wiring} (L : Lawful w) (bits : List ℕ)
  where
    pub moved_keeps : G (moved w n width bits bytes) ≡ G bytes
    moved_keeps =
        by (moved w n width bits bytes) (length_moved L n width bits bytes full)
        (ap F (cut_moved L n width bits bytes full)
        ∙ forward_keeps [] F keeps L n bits (cut width n bytes) (length_cut width n bytes))

    pub moved_back_keeps : G (moved_back w n width bits bytes) ≡ G bytes
    moved_back_keeps =
        by (moved_back w n width bits bytes) (length-moved_back L n width bits bytes full)
        (ap F (cut-moved_back L n width bits bytes full)
        ∙ backward_keeps [] F keeps L n bits (cut width n bytes) (length_cut width n bytes))
