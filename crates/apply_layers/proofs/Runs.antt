-- Entries run one after the other, and the switches of a layer.
-- Assumes nothing.
use mathlib.Core.Path.{◌≡◌, refl, sym, ap, ◌∙◌}
use mathlib.Core.List.{List, [], ◌∷◌, ◌++◌, reverse, reverse-append}
use Prim.Native.Nat.{ℕ, suc, ◌+◌, ◌*◌, ◌/◌, ◌≤◌, ◌<◌}
use native.Mathlib.Nat.{add-mul, mul_assoc, div-eq_of_eq-mul_left}
use native.Mathlib.Numerals.{add-one}
use native.Mathlib.Omega.{arith}
use lib.ListN.{length, get_or, length-append}
use Rattle.answers.specs.Buffers.{overlay}
use Rattle.answers.proofs.Buffers.{overlay_none}
use Rattle.network.specs.Blocks.{cut}
use Rattle.network.specs.Log.{Entry, entry, entry_words, words, layer_entries, run_entry, run}
use Rattle.network.proofs.Shape.{length-layer_entries}
use Rattle.network.specs.Shift.{shifted}
use Rattle.network.proofs.Blocks.{length_cut, cut-append}
use Rattle.network.proofs.Run.{run-append}
use Rattle.network.proofs.RunBack.{Below}
use Rattle.network.proofs.Shift.{length-shifted, shifted-append, shifted-twice, runs_before, runs_behind}
use Rattle.entry_log.proofs.Written.{log_then}
use Rattle.exchange_words.specs.Bytes.{bytes_switched}
use Rattle.apply_layers.specs.Ran.{blocks_in, Lent, Pairs, Ran, layer_of}
use Rattle.apply_layers.proofs.Blocks.{cut_switched}

-- as many bytes are as many blocks
pub same_many : (w : ℕ) (b b' : List ℕ) → length b' ≡ length b → blocks_in w b' ≡ blocks_in w b
unfolding blocks_in
same_many w b b' h = ap (λ n. n / w) h

-- n blocks of bytes
pub many : (n w : ℕ) (b : List ℕ) → 1 ≤ w → length b ≡ n * w → blocks_in w b ≡ n
unfolding blocks_in
many n w b some long = div-eq_of_eq-mul_left some long

pub length-layer_of : (step gap b c : ℕ) → length (layer_of step gap b c) ≡ c
length-layer_of step gap b c = length-layer_entries _ b c

module _ (w : ℕ) (bits : List ℕ) where
  -- no entry
  pub ran_none : (o e : ℕ) (b l : List ℕ) → Ran w bits [] o e b l b l
  unfolding words shifted run
  ran_none o e b l = record { blocks = refl; logged = sym (overlay_none l (entry_words * e)) }

  -- one: a switch on the place p and the one a gap further, under the bit at position q
  pub ran_one : (n p gap q o e : ℕ) (b l b' l' : List ℕ) → blocks_in w b ≡ n → 1 ≤ gap → p + gap < n → n * w ≡ length b
      → b' ≡ bytes_switched (p * w) (gap * w) (get_or bits q 0) w b
      → l' ≡ overlay l (entry_words * e) (words (entry 7 (o + p) (o + (p + gap)) q ∷ []))
      → Ran w bits (entry 7 p (p + gap) q ∷ []) o e b l b' l'
  unfolding shifted run run_entry
  ran_one n p gap q o e b l b' l' many apart h long f g =
      record { blocks = rw (many, f) (cut_switched w n gap p (get_or bits q 0) b apart h long); logged = g }

  -- some, and some more
  pub ran_then : {es fs : List Entry} {o e e' : ℕ} {b l b1 l1 b2 l2 : List ℕ} → e + length es ≡ e' → entry_words * e' ≤ length l
      → length b1 ≡ length b → Ran w bits es o e b l b1 l1 → Ran w bits fs o e' b1 l1 b2 l2 → Ran w bits (es ++ fs) o e b l b2 l2
  ran_then {es} {fs} {o} {e} {e'} {b} {l} {b1} {l1} {b2} {l2} h long kept r s =
      let n = blocks_in w b in
      let at : e + length (shifted o es) ≡ e' = omega (arith, length-shifted o es) in
      let more : cut w n b2 ≡ run [] bits fs (cut w n b1) = rw (same_many w b b1 kept) at s.blocks in
      record {
        blocks = more ∙ ap (run [] bits fs) r.blocks ∙ sym (run-append [] bits es fs (cut w n b));
        logged =
            log_then (shifted o es) (shifted o fs) e e' l l1 l2 at long r.logged s.logged
            ∙ ap (λ t. overlay l (entry_words * e) (words t)) (sym (shifted-append o es fs));
      }

many_both : (w k h : ℕ) → 1 ≤ w → (x z : List ℕ) → length x ≡ k * w → length z ≡ h * w → blocks_in w (x ++ z) ≡ k + h
many_both w k h some x z long rest = many (k + h) w (x ++ z) some (rw (length-append, add-mul) (omega arith))

-- entries that ran on the first k blocks have run on all; and so have entries that ran on the blocks behind the first k
module _ (w k h : ℕ) (some : 1 ≤ w) (bits : List ℕ) {es : List Entry} {o e : ℕ} {l l' : List ℕ} where
  pub ran_front : (x x' z : List ℕ) → length x ≡ k * w → length x' ≡ k * w → length z ≡ h * w → Below k es → Ran w bits es o e x l x' l'
      → Ran w bits es o e (x ++ z) l (x' ++ z) l'
  ran_front x x' z long long' rest below r =
      let part : cut w k x' ≡ run [] bits es (cut w k x) = rw (many k w x some long) at r.blocks in
      record {
        blocks =
            rw (many_both w k h some x z long rest)
            (cut-append w k h x' z long' ∙ ap (λ t. t ++ cut w h z) part
            ∙ sym (runs_before [] bits (cut w k x) (cut w h z) (length_cut w k x) below)
            ∙ ap (run [] bits es) (sym (cut-append w k h x z long)));
        logged = r.logged;
      }

  pub ran_behind : (a y y' : List ℕ) → length a ≡ k * w → length y ≡ h * w → Ran w bits es (o + k) e y l y' l'
      → Ran w bits (shifted k es) o e (a ++ y) l (a ++ y') l'
  ran_behind a y y' long rest r =
      let part : cut w h y' ≡ run [] bits es (cut w h y) = rw (many h w y some rest) at r.blocks in
      let n : length (cut w k a) ≡ k = length_cut w k a in
      record {
        blocks =
            rw (many_both w k h some a y long rest)
            (cut-append w k h a y' long ∙ ap (λ t. cut w k a ++ t) part
            ∙ sym (runs_behind [] bits es (cut w k a) (cut w h y))
            ∙ ap (λ j. run [] bits (shifted j es) (cut w k a ++ cut w h y)) n
            ∙ ap (run [] bits (shifted k es)) (sym (cut-append w k h a y long)));
        logged = r.logged ∙ ap (λ t. overlay l (entry_words * e) (words t)) (sym (shifted-twice o k es));
      }

module _ (w step gap o : ℕ) (bits : List ℕ) (p e : ℕ) (b l : List ℕ) where
  -- switch i of the layer whose bits begin at p, after some that kept the blocks' length
  one : (c i at : ℕ) (b1 l1 b2 l2 : List ℕ) → Pairs (blocks_in w b) step gap c → i < c → blocks_in w b * w ≡ length b
      → length b1 ≡ length b → b2 ≡ bytes_switched (i * (step * w)) (gap * w) (get_or bits (p + i) 0) w b1
      → l2 ≡ overlay l1 (entry_words * at) (words (entry 7 (o + i * step) (o + (i * step + gap)) (p + i) ∷ []))
      → Ran w bits (entry 7 (i * step) (i * step + gap) (p + i) ∷ []) o at b1 l1 b2 l2
  one c i at b1 l1 b2 l2 pairs h whole kept f g =
      ran_one w bits (blocks_in w b) (i * step) gap (p + i) o at b1 l1 b2 l2 (same_many w b b1 kept) pairs.apart (pairs.lies i h)
      (whole ∙ sym kept)
      (rw (← mul_assoc i step w) at f) g

  -- the first i switches of a layer, first to last
  abbrev pub First : ℕ → List ℕ → List ℕ → Type 0
  First i b' l' = Ran w bits (layer_of step gap p i) o e b l b' l'

  pub first_none : First 0 b l
  unfolding layer_entries
  first_none = ran_none w bits o e b l

  -- a whole layer of c switches, last to first
  abbrev pub Back : ℕ → ℕ → List ℕ → List ℕ → List ℕ → List ℕ → Type 0
  Back i to b1 l1 b' l' = Ran w bits (reverse (layer_of step gap p i)) o to b1 l1 b' l'

  -- whoever runs the first i switches from here, last to first, has run the whole layer
  abbrev pub Leads : ℕ → ℕ → ℕ → List ℕ → List ℕ → Type 0
  Leads c i to b1 l1 = (b' l' : List ℕ) → Back i to b1 l1 b' l' → Back c e b l b' l'

  pub leads_none : (c i to : ℕ) (b1 l1 : List ℕ) → i ≡ 0 → Leads c i to b1 l1 → Back c e b l b1 l1
  unfolding layer_entries
  leads_none c i to b1 l1 h lead = lead b1 l1 (rw h (ran_none w bits o to b1 l1))

  module _ (c : ℕ) (pairs : Pairs (blocks_in w b) step gap c) (lent : Lent w o c e b bits l) where
    pub first_more : (i : ℕ) (b1 l1 b2 l2 : List ℕ) → i < c → length b1 ≡ length b → First i b1 l1
        → b2 ≡ bytes_switched (i * (step * w)) (gap * w) (get_or bits (p + i) 0) w b1
        → l2 ≡ overlay l1 (entry_words * (e + i)) (words (entry 7 (o + i * step) (o + (i * step + gap)) (p + i) ∷ []))
        → First (i + 1) b2 l2
    unfolding layer_entries
    first_more i b1 l1 b2 l2 h kept r f g =
        rw (add-one i)
        (ran_then w bits (ap (λ n. e + n) (length-layer_of step gap p i)) (omega (arith, lent.room)) kept r
        (one c i (e + i) b1 l1 b2 l2 pairs h lent.whole kept f g))

    -- the next switch to act is j
    pub leads_more : (i j to : ℕ) (b1 l1 b2 l2 : List ℕ) → i ≡ suc j → j < c → length b1 ≡ length b
        → length b2 ≡ length b1 → entry_words * (to + 1) ≤ length l1 → Leads c i to b1 l1
        → b2 ≡ bytes_switched (j * (step * w)) (gap * w) (get_or bits (p + j) 0) w b1
        → l2 ≡ overlay l1 (entry_words * to) (words (entry 7 (o + j * step) (o + (j * step + gap)) (p + j) ∷ []))
        → Leads c j (to + 1) b2 l2
    unfolding layer_entries
    leads_more i j to b1 l1 b2 l2 next h kept kept2 room lead f g b' l' rest =
        let x = entry 7 (j * step) (j * step + gap) (p + j) in
        let es = layer_of step gap p j in
        let last : reverse (es ++ (x ∷ [])) ≡ x ∷ reverse es = reverse-append es (x ∷ []) in
        lead b' l'
        (rw (next, last)
        (ran_then w bits refl room kept2 (one c j to b1 l1 b2 l2 pairs h lent.whole kept f g) rest))
