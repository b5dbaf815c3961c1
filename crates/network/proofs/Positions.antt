-- The fourth words of a log (02, F-7): entry e of mixing has position e, of returning position W(n) - 1 - e. So 01's rule of running,
-- by which an entry's number tells its bit (specs/ByNumber), comes to the same as the fourth words.
-- Assumes nothing.
use mathlib.Core.Bool.{false, true}
use mathlib.Core.Path.{◌≡◌, refl, sym, ap, ◌∙◌}
use mathlib.Core.List.{List, [], ◌∷◌, ◌++◌, map, reverse, reverse-cons}
use Prim.Native.Nat.{ℕ, zero, suc, ◌+◌, ◌-◌, ◌<◌}
use native.Mathlib.Nat.{add-zero, zero-add}
use native.Mathlib.Omega.{arith}
use native.Mathlib.Decide.{dec_lt}
use lib.ListN.{length, get_or, length-append, length-reverse, get_or-append}
use lib.Seq.{get_or-append-add}
use Rattle.counts.specs.Counts.{up, W}
use Rattle.network.specs.Wiring.{Wiring, Side}
use Rattle.network.specs.Network.{Network, wires, split, network, switch_count, down}
use Rattle.network.specs.Log.{Entry, entry, none_such, layer_entries, switches, apply_entries, inverse_entries, run_entry, run}
use Rattle.network.specs.ByNumber.{mixing_bit, returning_bit, run_by_number}
use Rattle.network.proofs.Shape.{length-layer_entries, length-switches, length-apply_entries, length-inverse_entries}

-- ---- positions

-- the positions of some entries, one after the other, count on from b
Counts : ℕ → List Entry → Type 0
Counts b es = (e : ℕ) → e < length es → (get_or es e none_such).bit ≡ b + e

counts_none : (b : ℕ) → Counts b []
unfolding Counts
counts_none b e h = absurd (omega arith)

counts_append : (b c : ℕ) (es fs : List Entry) → b + length es ≡ c → Counts b es → Counts c fs → Counts b (es ++ fs)
unfolding Counts
counts_append b c es fs long p q e h = go (dec_lt e (length es))
  where
    go : Dec (e < length es) → (get_or (es ++ fs) e none_such).bit ≡ b + e
    go (yes l) = rw (get_or-append es fs none_such e l) (p e l)
    go (no l) =
        let i : ℕ = e - length es in
        let at : e ≡ length es + i = omega arith in
        let below : i < length fs = omega (arith, length-append es fs, h) in
        rw at (rw (get_or-append-add es fs i none_such) (q i below ∙ omega arith))

counts_layer : (at : Side → ℕ) (b c : ℕ) → Counts b (layer_entries at b c)
unfolding layer_entries Counts
counts_layer at b zero = counts_none b
counts_layer at b (suc i) =
    counts_append b (b + i) (layer_entries at b i) (entry 7 (at (i, false)) (at (i, true)) (b + i) ∷ [])
    (ap (λ n. b + n) (length-layer_entries at b i))
    (counts_layer at b i)
    one
  where
    one : Counts (b + i) (entry 7 (at (i, false)) (at (i, true)) (b + i) ∷ [])
    one zero h = sym (add-zero (b + i))
    one (suc e) h = absurd (omega arith)

module _ (w : Wiring) where
  counts_switches : (net : Network) (place : ℕ → ℕ) (b : ℕ) → Counts b (switches w net place b)
  unfolding switches
  counts_switches wires place b = counts_none b
  counts_switches (split m top bottom) place b =
      let at : Side → ℕ = λ p. place (w.enc (up m) p) in
      let b1 = b + (up m - 1) in
      let b2 = b + ((up m - 1) + switch_count top) in
      let b3 = b2 + switch_count bottom in
      let us = switches w top (λ i. at (i, false)) b1 in
      let ls = switches w bottom (λ i. at (i, true)) b2 in
      let gs = layer_entries at b3 (down m) in
      let long1 = length-layer_entries at b (up m - 1) in
      let long2 = length-switches w top (λ i. at (i, false)) b1 in
      let long3 = length-switches w bottom (λ i. at (i, true)) b2 in
      counts_append b b1 (layer_entries at b (up m - 1)) (us ++ (ls ++ gs)) (ap (λ n. b + n) long1) (counts_layer at b (up m - 1))
      (counts_append b1 b2 us (ls ++ gs) (omega (arith, long2)) (counts_switches top (λ i. at (i, false)) b1)
      (counts_append b2 b3 ls gs (ap (λ n. b2 + n) long3) (counts_switches bottom (λ i. at (i, true)) b2) (counts_layer at b3 (down m))))

  -- mixing: entry e has position e
  pub apply_position : (n e : ℕ) → e < W n → (get_or (apply_entries w n) e none_such).bit ≡ e
  unfolding apply_entries Counts
  apply_position n e h =
      counts_switches (network n) (λ i. i) 0 e h' ∙ zero-add e
    where
      h' : e < length (apply_entries w n)
      h' = omega (arith, length-apply_entries w n)

get_d_reverse : {A : Type 0} (d : A) (xs : List A) (i : ℕ) → i < length xs → get_or (reverse xs) i d ≡ get_or xs (length xs - 1 - i) d
get_d_reverse d [] i h = absurd (omega arith)
get_d_reverse d (x ∷ xs) i h = rw (reverse-cons x xs) (go (dec_lt i (length xs)) (get_d_reverse d xs i))
  where
    go : Dec (i < length xs) → (i < length xs → get_or (reverse xs) i d ≡ get_or xs (length xs - 1 - i) d)
        → get_or (reverse xs ++ (x ∷ [])) i d ≡ get_or (x ∷ xs) (suc (length xs) - 1 - i) d
    go (yes l) before =
        let at : suc (length xs) - 1 - i ≡ suc (length xs - 1 - i) = omega arith in
        rw (get_or-append (reverse xs) (x ∷ []) d i (omega (arith, length-reverse xs)), at) (before l)
    go (no l) before =
        let last : i ≡ length (reverse xs) + 0 = omega (arith, length-reverse xs) in
        let first : suc (length xs) - 1 - i ≡ 0 = omega arith in
        rw first (rw last (get_or-append-add (reverse xs) (x ∷ []) 0 d))

-- returning: entry e has position W(n) - 1 - e
pub inverse_position : (w : Wiring) (n e : ℕ) → e < W n → (get_or (inverse_entries w n) e none_such).bit ≡ W n - 1 - e
unfolding inverse_entries
inverse_position w n e h =
    let es = apply_entries w n in
    let count = length-apply_entries w n in
    ap (λ (x : Entry). x.bit) (get_d_reverse none_such es e (omega (arith, count)))
    ∙ rw count (apply_position w n (W n - 1 - e) (omega arith))

-- ---- 01's rule

module _ {A : Type 0} (d : A) where
  by_number : (bits : List ℕ) (bit : ℕ → ℕ) (e : ℕ) (es : List Entry) (xs : List A)
      → ((i : ℕ) → i < length es → get_or bits (get_or es i none_such).bit 0 ≡ bit (e + i))
      → run d bits es xs ≡ run_by_number d bit e es xs
  unfolding run run_entry run_by_number
  by_number bits bit e [] xs h = refl
  by_number bits bit e (x ∷ es) xs h =
      let now : get_or bits x.bit 0 ≡ bit e = h 0 (omega arith) ∙ ap bit (add-zero e) in
      rw now
      (by_number bits bit (suc e) es _
      (λ i l. h (suc i) (omega arith) ∙ ap bit (let f : e + suc i ≡ suc e + i = omega arith in f)))

  -- it reads no fourth word: others in their place change nothing
  pub fourth_unread : (bit : ℕ → ℕ) (e : ℕ) (other : Entry → ℕ) (es : List Entry) (xs : List A)
      → run_by_number d bit e (map (λ (x : Entry). entry x.kind x.first x.second (other x)) es) xs ≡ run_by_number d bit e es xs
  unfolding run_by_number
  fourth_unread bit e other [] xs = refl
  fourth_unread bit e other (x ∷ es) xs = fourth_unread bit (suc e) other es _

  -- mixing: entry e uses bit e
  pub apply_by_number : (w : Wiring) (n : ℕ) (bits : List ℕ) (xs : List A)
      → run d bits (apply_entries w n) xs ≡ run_by_number d (mixing_bit bits) 0 (apply_entries w n) xs
  apply_by_number w n bits xs =
      by_number bits (mixing_bit bits) 0 (apply_entries w n) xs
      (λ i h. ap (λ j. get_or bits j 0) (apply_position w n i (omega (arith, length-apply_entries w n)) ∙ sym (zero-add i)))

  -- returning: entry e uses bit W(n) - 1 - e
  pub inverse_by_number : (w : Wiring) (n : ℕ) (bits : List ℕ) (xs : List A)
      → run d bits (inverse_entries w n) xs ≡ run_by_number d (returning_bit n bits) 0 (inverse_entries w n) xs
  inverse_by_number w n bits xs =
      by_number bits (returning_bit n bits) 0 (inverse_entries w n) xs
      (λ i h.
      ap (λ j. get_or bits j 0)
      (inverse_position w n i (omega (arith, length-inverse_entries w n)) ∙ ap (λ j. W n - 1 - j) (sym (zero-add i))))
