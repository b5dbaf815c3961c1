-- Running the log of returning moves the items backward: each switch undoes itself, so the entries of mixing in reverse
-- undo mixing, and so does backward.
-- Assumes nothing.
use mathlib.Core.Bool.{Bool, true, false, cond}
use mathlib.Core.Path.{◌≡◌, refl, sym, ap, ◌∙◌}
use mathlib.Core.Logic.{◌≢◌}
use mathlib.Core.List.{List, [], ◌∷◌, ◌++◌, reverse, reverse-cons}
use Prim.Native.Nat.{ℕ, zero, suc, ◌-◌, ◌≤◌, ◌<◌}
use native.Mathlib.Omega.{arith}
use native.Mathlib.Decide.{ℕ_discrete}
use lib.Dec.{eqb}
use lib.ListN.{length, get_or, set}
use lib.Seq.{ext_get_or, set-get_or}
use Rattle.counts.specs.Counts.{up}
use Rattle.network.specs.Wiring.{Wiring, Lawful, Side}
use Rattle.network.specs.Network.{Network, network, down}
use Rattle.network.specs.Move.{switch, backward}
use Rattle.network.specs.Log.{Entry, layer_entries, switches, apply_entries, inverse_entries, run_entry, run}
use Rattle.network.proofs.Shape.{Sized, none, some, sized, length-switch, length-backward}
use Rattle.network.proofs.Places.{lies_top, lies_both, lies_below, switch-first, switch_second, switch-other}
use Rattle.network.proofs.Undo.{forward-backward}
use Rattle.network.proofs.Run.{run-append, run_apply}

-- all places of the entries are below n
pub data Below (n : ℕ) : List Entry → Type 0 where
  empty : Below n []
  also : {e : Entry} {es : List Entry} → e.first < n → e.second < n → Below n es → Below n (e ∷ es)

below-append : {n : ℕ} {es fs : List Entry} → Below n es → Below n fs → Below n (es ++ fs)
below-append empty b = b
below-append (also p q a) b = also p q (below-append a b)

pub below-reverse : {n : ℕ} {es : List Entry} → Below n es → Below n (reverse es)
below-reverse empty = empty
below-reverse {n} (also {e = e} {es = es} p q b) = rw (reverse-cons e es) (below-append (below-reverse b) (also p q empty))

below-layer : (n : ℕ) (at : Side → ℕ) (b c : ℕ) → ((p : Side) → p.0 < c → at p < n) → Below n (layer_entries at b c)
unfolding layer_entries
below-layer n at b zero h = empty
below-layer n at b (suc i) h =
    below-append (below-layer n at b i (λ p l. h p (omega arith)))
    (also (h (i, false) (omega arith)) (h (i, true) (omega arith)) empty)

pub below-switches :
    {w : Wiring} → Lawful w → {m : ℕ} {net : Network} → Sized m net → (n : ℕ) (place : ℕ → ℕ) (b : ℕ)
    → ((q : ℕ) → q < m → place q < n) → Below n (switches w net place b)
unfolding switches
below-switches L (none z) n place b h = empty
below-switches {w} L {m} (some {top = top} {bottom = bottom} two t u) n place b h =
    let both : (c : ℕ) → c ≤ down m → (p : Side) → p.0 < c → place (w.enc (up m) p) < n =
    λ c g p l. h (w.enc (up m) p) (lies_below L m p (lies_both m p (omega arith))) in
    below-append
    (below-layer n (λ p. place (w.enc (up m) p)) _ (up m - 1) (both (up m - 1) (omega arith)))
    (below-append
    (below-switches L t n (λ j. place (w.enc (up m) (j, false))) _
    (λ j l. h (w.enc (up m) (j, false)) (lies_below L m (j, false) (lies_top m j l))))
    (below-append
    (below-switches L u n (λ j. place (w.enc (up m) (j, true))) _
    (λ j l. h (w.enc (up m) (j, true)) (lies_below L m (j, true) (lies_both m (j, true) l))))
    (below-layer n (λ p. place (w.enc (up m) p)) _ (down m) (both (down m) (omega arith)))))

pub below_apply : {w : Wiring} → Lawful w → (n : ℕ) → Below n (apply_entries w n)
unfolding apply_entries
below_apply L n = below-switches L (sized n) n (λ q. q) 0 (λ q h. h)

module _ {A : Type 0} (d : A) where
  switch_self : (p bit : ℕ) (xs : List A) → switch d p p bit xs ≡ xs
  unfolding switch
  switch_self p bit xs = go (eqb bit 1)
    where
      go : (b : Bool) → cond b (set (set xs p (get_or xs p d)) p (get_or xs p d)) xs ≡ xs
      go true = rw (set-get_or xs p d) (set-get_or xs p d)
      go false = refl

  -- a switch undoes itself
  pub switch-twice :
      (p q bit : ℕ) (xs : List A) → p < length xs → q < length xs → switch d p q bit (switch d p q bit xs) ≡ xs
  switch-twice p q bit xs hp hq = go (ℕ_discrete p q)
    where
      ys : List A
      ys = switch d p q bit xs

      long : length ys ≡ length xs
      long = length-switch d p q bit xs

      at_first : p ≢ q → (b : Bool) → eqb bit 1 ≡ b → get_or ys (cond b q p) d ≡ get_or xs p d
      at_first ne true e = switch_second d p q bit xs hq ∙ ap (λ (b : Bool). get_or xs (cond b p q) d) e
      at_first ne false e = switch-first d p q bit xs hp ne ∙ ap (λ (b : Bool). get_or xs (cond b q p) d) e

      at_second : p ≢ q → (b : Bool) → eqb bit 1 ≡ b → get_or ys (cond b p q) d ≡ get_or xs q d
      at_second ne true e = switch-first d p q bit xs hp ne ∙ ap (λ (b : Bool). get_or xs (cond b q p) d) e
      at_second ne false e = switch_second d p q bit xs hq ∙ ap (λ (b : Bool). get_or xs (cond b p q) d) e

      each : p ≢ q → (r : ℕ) → Dec (r ≡ p) → Dec (r ≡ q) → get_or (switch d p q bit ys) r d ≡ get_or xs r d
      each ne r (yes e) g = rw e (switch-first d p q bit ys (rw long hp) ne ∙ at_first ne (eqb bit 1) refl)
      each ne r (no e) (yes f) = rw f (switch_second d p q bit ys (rw long hq) ∙ at_second ne (eqb bit 1) refl)
      each ne r (no e) (no f) = switch-other d p q bit ys r e f ∙ switch-other d p q bit xs r e f

      go : Dec (p ≡ q) → switch d p q bit (switch d p q bit xs) ≡ xs
      go (yes e) = rw (e, switch_self q bit xs) (switch_self q bit xs)
      go (no ne) =
          ext_get_or d (switch d p q bit ys) xs (length-switch d p q bit ys ∙ long)
          (λ r h. each ne r (ℕ_discrete r p) (ℕ_discrete r q))

  entry-twice :
      (bits : List ℕ) (e : Entry) (xs : List A) → e.first < length xs → e.second < length xs
      → run_entry d bits e (run_entry d bits e xs) ≡ xs
  unfolding run_entry
  entry-twice bits e xs p q = go (eqb e.kind 7)
    where
      act : List A → List A
      act = switch d e.first e.second (get_or bits e.bit 0)

      go : (b : Bool) → cond b (act (cond b (act xs) xs)) (cond b (act xs) xs) ≡ xs
      go true = switch-twice e.first e.second (get_or bits e.bit 0) xs p q
      go false = refl

  pub length-run_entry : (bits : List ℕ) (e : Entry) (xs : List A) → length (run_entry d bits e xs) ≡ length xs
  unfolding run_entry
  length-run_entry bits e xs = go (eqb e.kind 7)
    where
      go : (b : Bool) → length (cond b (switch d e.first e.second (get_or bits e.bit 0) xs) xs) ≡ length xs
      go true = length-switch d e.first e.second (get_or bits e.bit 0) xs
      go false = refl

  -- entries run backwards undo them
  backwards_undoes :
      (bits : List ℕ) {n : ℕ} {es : List Entry} → Below n es → (xs : List A) → length xs ≡ n
      → run d bits (reverse es) (run d bits es xs) ≡ xs
  unfolding run
  backwards_undoes bits empty xs l = refl
  backwards_undoes bits (also {e = e} {es = es} p q b) xs l =
      let ys = run_entry d bits e xs in
      rw (reverse-cons e es)
      (run-append d bits (reverse es) (e ∷ []) (run d bits es ys)
      ∙ ap (run_entry d bits e) (backwards_undoes bits b ys (length-run_entry bits e xs ∙ l))
      ∙ entry-twice bits e xs (omega arith) (omega arith))

  -- what is left by running the entries of returning is what the wiring leaves, backward
  pub run_inverse :
      {w : Wiring} → Lawful w → (n : ℕ) (bits : List ℕ) (xs : List A) → length xs ≡ n
      → run d bits (inverse_entries w n) xs ≡ backward d w (network n) bits xs
  unfolding inverse_entries
  run_inverse {w} L n bits xs e =
      let ys = backward d w (network n) bits xs in
      let long : length ys ≡ n = length-backward d w n bits xs e in
      let es = apply_entries w n in
      let mixed : xs ≡ run d bits es ys = sym (run_apply d L n bits ys long ∙ forward-backward d L n bits xs e) in
      ap (run d bits (reverse es)) mixed ∙ backwards_undoes bits (below_apply L n) ys long
