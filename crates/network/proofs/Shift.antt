-- Entries whose places are counted from another place on, and entries that run on a part of a list.
-- Assumes nothing.
use mathlib.Core.Bool.{Bool, true, false, cond}
use mathlib.Core.Path.{◌≡◌, refl, sym, ap, ◌∙◌}
use mathlib.Core.List.{List, [], ◌∷◌, ◌++◌, reverse, reverse-cons}
use Prim.Native.Nat.{ℕ, zero, suc, ◌+◌, ◌-◌, ◌<◌}
use native.Mathlib.Nat.{zero-add, add_assoc}
use native.Mathlib.Omega.{arith}
use lib.Dec.{eqb}
use lib.ListN.{length, get_or, set, length-set, get_or-append}
use lib.Seq.{get_or-append-add, set-append_left}
use Rattle.counts.specs.Counts.{up}
use Rattle.network.specs.Wiring.{Wiring, Side}
use Rattle.network.specs.Network.{Network, wires, split, switch_count, down}
use Rattle.network.specs.Move.{switch}
use Rattle.network.specs.Log.{Entry, entry, layer_entries, switches, run_entry, run}
use Rattle.network.specs.Shift.{shifted}
use Rattle.network.proofs.RunBack.{Below, empty, also, length-run_entry}

-- ---- the entries

pub length-shifted : (o : ℕ) (es : List Entry) → length (shifted o es) ≡ length es
unfolding shifted
length-shifted o [] = refl
length-shifted o (e ∷ es) = ap suc (length-shifted o es)

pub shifted-append : (o : ℕ) (es fs : List Entry) → shifted o (es ++ fs) ≡ shifted o es ++ shifted o fs
unfolding shifted
shifted-append o [] fs = refl
shifted-append o (e ∷ es) fs = ap (λ t. entry e.kind (o + e.first) (o + e.second) e.bit ∷ t) (shifted-append o es fs)

pub shifted-reverse : (o : ℕ) (es : List Entry) → shifted o (reverse es) ≡ reverse (shifted o es)
unfolding shifted
shifted-reverse o [] = refl
shifted-reverse o (e ∷ es) =
    let x : Entry = entry e.kind (o + e.first) (o + e.second) e.bit in
    ap (shifted o) (reverse-cons e es)
    ∙ shifted-append o (reverse es) (e ∷ [])
    ∙ ap (λ t. t ++ (x ∷ [])) (shifted-reverse o es)
    ∙ sym (reverse-cons x (shifted o es))

pub shifted_none : (es : List Entry) → shifted 0 es ≡ es
unfolding shifted
shifted_none [] = refl
shifted_none (e ∷ es) =
    ap (λ n. entry e.kind n (0 + e.second) e.bit ∷ shifted 0 es) (zero-add e.first)
    ∙ ap (λ n. entry e.kind e.first n e.bit ∷ shifted 0 es) (zero-add e.second)
    ∙ ap (λ t. e ∷ t) (shifted_none es)

pub shifted-twice : (o s : ℕ) (es : List Entry) → shifted o (shifted s es) ≡ shifted (o + s) es
unfolding shifted
shifted-twice o s [] = refl
shifted-twice o s (e ∷ es) =
    ap (λ n. entry e.kind n (o + (s + e.second)) e.bit ∷ shifted o (shifted s es)) (sym (add_assoc o s e.first))
    ∙ ap (λ n. entry e.kind (o + s + e.first) n e.bit ∷ shifted o (shifted s es)) (sym (add_assoc o s e.second))
    ∙ ap (λ t. entry e.kind (o + s + e.first) (o + s + e.second) e.bit ∷ t) (shifted-twice o s es)

-- a layer, and a network, whose places all lie further on
pub layer-shifted : (o : ℕ) (at : Side → ℕ) (b c : ℕ) → layer_entries (λ p. o + at p) b c ≡ shifted o (layer_entries at b c)
unfolding layer_entries shifted
layer-shifted o at b zero = refl
layer-shifted o at b (suc i) =
    let x : Entry = entry 7 (at (i, false)) (at (i, true)) (b + i) in
    ap (λ t. t ++ (entry 7 (o + at (i, false)) (o + at (i, true)) (b + i) ∷ [])) (layer-shifted o at b i)
    ∙ sym (shifted-append o (layer_entries at b i) (x ∷ []))

pub switches-shifted : (w : Wiring) (o : ℕ) (net : Network) (place : ℕ → ℕ) (b : ℕ)
    → switches w net (λ i. o + place i) b ≡ shifted o (switches w net place b)
unfolding switches shifted
switches-shifted w o wires place b = refl
switches-shifted w o (split m top bottom) place b =
    let at : Side → ℕ = λ p. place (w.enc (up m) p) in
    let b1 = b + (up m - 1) in
    let b2 = b + ((up m - 1) + switch_count top) in
    let b3 = b2 + switch_count bottom in
    let fs : List Entry = layer_entries at b (up m - 1) in
    let us : List Entry = switches w top (λ i. at (i, false)) b1 in
    let ls : List Entry = switches w bottom (λ i. at (i, true)) b2 in
    let gs : List Entry = layer_entries at b3 (down m) in
    rw (
      layer-shifted o at b (up m - 1),
      layer-shifted o at b3 (down m),
      switches-shifted w o top (λ i. at (i, false)) b1,
      switches-shifted w o bottom (λ i. at (i, true)) b2,
      shifted-append o fs (us ++ (ls ++ gs)),
      shifted-append o us (ls ++ gs),
      shifted-append o ls gs,
    )

-- ---- running them

module _ {A : Type 0} (d : A) where
  set-behind : (a y : List A) (p : ℕ) (v : A) → set (a ++ y) (length a + p) v ≡ a ++ set y p v
  set-behind [] y p v = ap (λ i. set y i v) (zero-add p)
  set-behind (x ∷ a) y p v =
      ap (λ i. set (x ∷ (a ++ y)) i v) (let e : length (x ∷ a) + p ≡ suc (length a + p) = omega arith in e)
      ∙ ap (λ u. x ∷ u) (set-behind a y p v)

  -- a switch on places behind some items leaves these
  switch-behind : (a y : List A) (p q bit : ℕ) → switch d (length a + p) (length a + q) bit (a ++ y) ≡ a ++ switch d p q bit y
  unfolding switch
  switch-behind a y p q bit = go (eqb bit 1)
    where
      go : (b : Bool)
          → cond b (set (set (a ++ y) (length a + p) (get_or (a ++ y) (length a + q) d)) (length a + q) (get_or (a ++ y) (length a + p) d)) (a ++ y)
          ≡ a ++ cond b (set (set y p (get_or y q d)) q (get_or y p d)) y
      go true =
          rw (get_or-append-add a y q d, get_or-append-add a y p d, set-behind a y p (get_or y q d), set-behind a (set y p (get_or y q d)) q (get_or y p d))
      go false = refl

  -- and one on places before some items leaves those
  switch-before : (x z : List A) (p q bit : ℕ) → p < length x → q < length x → switch d p q bit (x ++ z) ≡ switch d p q bit x ++ z
  unfolding switch
  switch-before x z p q bit hp hq = go (eqb bit 1)
    where
      go : (b : Bool)
          → cond b (set (set (x ++ z) p (get_or (x ++ z) q d)) q (get_or (x ++ z) p d)) (x ++ z)
          ≡ cond b (set (set x p (get_or x q d)) q (get_or x p d)) x ++ z
      go true =
          let y : List A = set x p (get_or x q d) in
          let ly : q < length y = rw (length-set x p (get_or x q d)) hq in
          rw (get_or-append x z d q hq, get_or-append x z d p hp, set-append_left x z p (get_or x q d) hp)
          (set-append_left y z q (get_or x p d) ly)
      go false = refl

  entry-behind : (a y : List A) (bits : List ℕ) (e : Entry)
      → run_entry d bits (entry e.kind (length a + e.first) (length a + e.second) e.bit) (a ++ y) ≡ a ++ run_entry d bits e y
  unfolding run_entry
  entry-behind a y bits e = go (eqb e.kind 7)
    where
      bit : ℕ
      bit = get_or bits e.bit 0

      go : (b : Bool)
          → cond b (switch d (length a + e.first) (length a + e.second) bit (a ++ y)) (a ++ y)
          ≡ a ++ cond b (switch d e.first e.second bit y) y
      go true = switch-behind a y e.first e.second bit
      go false = refl

  entry-before : (x z : List A) (bits : List ℕ) (e : Entry) → e.first < length x → e.second < length x
      → run_entry d bits e (x ++ z) ≡ run_entry d bits e x ++ z
  unfolding run_entry
  entry-before x z bits e p q = go (eqb e.kind 7)
    where
      bit : ℕ
      bit = get_or bits e.bit 0

      go : (b : Bool)
          → cond b (switch d e.first e.second bit (x ++ z)) (x ++ z) ≡ cond b (switch d e.first e.second bit x) x ++ z
      go true = switch-before x z e.first e.second bit p q
      go false = refl

  -- entries whose places are counted behind some items run on the rest alone
  pub runs_behind : (bits : List ℕ) (es : List Entry) (a y : List A)
      → run d bits (shifted (length a) es) (a ++ y) ≡ a ++ run d bits es y
  unfolding run shifted
  runs_behind bits [] a y = refl
  runs_behind bits (x ∷ es) a y =
      ap (run d bits (shifted (length a) es)) (entry-behind a y bits x) ∙ runs_behind bits es a (run_entry d bits x y)

  -- entries whose places are all among the first items run on these alone
  pub runs_before : (bits : List ℕ) {n : ℕ} {es : List Entry} (x z : List A) → length x ≡ n → Below n es
      → run d bits es (x ++ z) ≡ run d bits es x ++ z
  unfolding run
  runs_before bits x z l empty = refl
  runs_before bits x z l (also {e = f} {es = es} p q b) =
      ap (run d bits es) (entry-before x z bits f (omega arith) (omega arith))
      ∙ runs_before bits (run_entry d bits f x) z (length-run_entry d bits f x ∙ l) b
