-- The stages of a network's run, put together: its whole list of switches was run, first to last or last to first.
-- Assumes nothing.
use mathlib.Core.Path.{◌≡◌, sym, ap, ◌∙◌, fun_ext}
use mathlib.Core.Bool.{Bool, true, false, cond}
use mathlib.Core.List.{List, [], ◌∷◌, ◌++◌, append_assoc, reverse, reverse-append}
use Prim.Native.Nat.{ℕ, ◌+◌, ◌-◌, ◌*◌, ◌≤◌, ◌<◌}
use native.Mathlib.Nat.{zero-mul}
use native.Mathlib.Omega.{arith}
use lib.ListN.{length, length-reverse}
use Rattle.counts.specs.Counts.{W, up, by_halves}
use Rattle.counts.proofs.Rule.{W_none, W_more}
use Rattle.network.specs.Wiring.{Side}
use Rattle.network.specs.Network.{network, network_in, switch_count, down}
use Rattle.network.specs.Log.{Entry, entry, entry_words, layer_entries, switches}
use Rattle.network.specs.Shift.{shifted}
use Rattle.network.proofs.Shape.{network_none, network_more, count_is, length-switches}
use Rattle.network.proofs.Shift.{length-shifted, shifted_none, shifted-reverse, switches-shifted}
use Rattle.wirings.specs.declared.Net.{Net}
use Rattle.wirings.specs.Nets.{wiring_of, side_of, Spaced, IsHalf}
use Rattle.apply_layers.specs.Ran.{Ran, back_from, layer_of, switches_of}
use Rattle.apply_layers.proofs.Runs.{length-layer_of, ran_none, ran_then}

backwards : (p a b q : List Entry) → reverse (p ++ (a ++ (b ++ q))) ≡ reverse q ++ (reverse b ++ (reverse a ++ reverse p))
backwards p a b q =
    rw (reverse-append p (a ++ (b ++ q)), reverse-append a (b ++ q), reverse-append b q)
    (append_assoc (reverse q ++ reverse b) (reverse a) (reverse p) ∙ append_assoc (reverse q) (reverse b) (reverse a ++ reverse p))

-- positions counted from the end, of what stands b before c
from_end : (n a b c : ℕ) → c ≡ a + b → c ≤ n → n - a ≡ n - c + b
from_end n a b c e h = omega arith

-- where the bits of a network's parts begin, from the entries after which the return comes to them
record Begins (n e e1 e2 e3 inputs top bottom outputs all : ℕ) : Type 0 where
  at_top : n - (e2 + top) ≡ n - (e + all) + inputs
  at_bottom : n - (e1 + bottom) ≡ n - (e2 + top) + top
  at_outputs : n - (e + outputs) ≡ n - (e1 + bottom) + bottom
  at_inputs : n - (e3 + inputs) ≡ n - (e + all)

begins : (n e e1 e2 e3 inputs top bottom outputs all : ℕ) → all ≡ inputs + top + bottom + outputs → e + all ≤ n
    → e1 ≡ e + outputs → e2 ≡ e1 + bottom → e3 ≡ e2 + top → Begins n e e1 e2 e3 inputs top bottom outputs all
begins n e e1 e2 e3 inputs top bottom outputs all count enough at1 at2 at3 =
    record {
      at_top = from_end n (e2 + top) inputs (e + all) (omega arith) enough;
      at_bottom = from_end n (e1 + bottom) top (e2 + top) (omega arith) (omega arith);
      at_outputs = from_end n (e + outputs) bottom (e1 + bottom) (omega arith) (omega arith);
      at_inputs = ap (λ c. n - c) (omega arith);
    }

-- the lengths that a call keeps
pub record Same (b l b' l' : List ℕ) : Type 0 where
  pub blocks : length b' ≡ length b
  pub log : length l' ≡ length l

-- four stages
stages : (w : ℕ) (bits : List ℕ) {es fs gs hs : List Entry} {o e e1 e2 e3 : ℕ} {b l b1 l1 b2 l2 b3 l3 b4 l4 : List ℕ}
    → e + length es ≡ e1 → e1 + length fs ≡ e2 → e2 + length gs ≡ e3 → entry_words * e3 ≤ length l
    → Same b l b1 l1 → Same b1 l1 b2 l2 → Same b2 l2 b3 l3
    → Ran w bits es o e b l b1 l1 → Ran w bits fs o e1 b1 l1 b2 l2 → Ran w bits gs o e2 b2 l2 b3 l3 → Ran w bits hs o e3 b3 l3 b4 l4
    → Ran w bits (es ++ (fs ++ (gs ++ hs))) o e b l b4 l4
stages w bits at1 at2 at3 room k1 k2 k3 r s t u =
    ran_then w bits at1 (omega arith) k1.blocks r
    (ran_then w bits at2 (omega (arith, k1.log)) k2.blocks s (ran_then w bits at3 (omega (arith, k1.log, k2.log)) k3.blocks t u))

pub W_two : (m : ℕ) → m ≡ 2 → W m ≡ 1
unfolding W by_halves
W_two m e = rw e

-- the input and the output switches of a network, whose bits begin at p
abbrev inputs : Net → ℕ → ℕ → ℕ → List Entry
inputs net step gap p = layer_of step gap p (up net.size - 1)

abbrev outputs : Net → ℕ → ℕ → ℕ → List Entry
outputs net step gap p = layer_of step gap p (down net.size)

-- where a half begins, counted from the network's first place
abbrev ahead : Bool → ℕ → ℕ
ahead t gap = cond t gap 0

module _ {net : Net} {step gap : ℕ} (S : Spaced net step gap) where
  -- the places by the spacing
  side-at : (t : Bool) (i : ℕ) → side_of net (i, t) * net.apart ≡ ahead t gap + i * step
  side-at true i = S.upper i
  side-at false i = S.lower i ∙ omega arith

  layer_is : (p c : ℕ) → layer_entries (λ s. side_of net s * net.apart) p c ≡ layer_of step gap p c
  layer_is p c = ap (λ (at : Side → ℕ). layer_entries at p c) (fun_ext (λ s. go s.0 s.1))
    where
      go : (i : ℕ) (t : Bool) → side_of net (i, t) * net.apart ≡ cond t (i * step + gap) (i * step)
      go i true = S.upper i ∙ omega arith
      go i false = S.lower i

  -- a half's places and switches
  module _ {t : Bool} {r : Net} (H : IsHalf net t r) where
    at : (i : ℕ) → r.start + i * r.apart ≡ net.start + (ahead t gap + i * step)
    at i = ap (λ (place : ℕ → ℕ). place i) H.places ∙ ap (λ n. net.start + n) (side-at t i)

    pub half-start : r.start ≡ net.start + ahead t gap
    half-start = omega (arith, at 0)

    pub half-apart : r.apart ≡ step
    half-apart = omega (arith, at 1, half-start)

    half-switches : (p : ℕ)
        → switches (wiring_of net.topology) (network (cond t (down net.size) (up net.size))) (λ i. side_of net (i, t) * net.apart)
        p
        ≡ shifted (ahead t gap) (switches_of r p)
    half-switches p =
        let same : ◌≡◌ {A = ℕ → ℕ} (λ i. ahead t gap + i * r.apart) (λ i. side_of net (i, t) * net.apart) =
        fun_ext (λ i. ap (λ n. ahead t gap + i * n) half-apart ∙ sym (side-at t i)) in
        sym (λ j. switches (wiring_of (H.wiring j)) (network (H.size j)) (same j) p)
        ∙ switches-shifted (wiring_of r.topology) (ahead t gap) (network r.size) (λ i. i * r.apart) p

    length-half : (p : ℕ) → length (switches_of r p) ≡ W (cond t (down net.size) (up net.size))
    length-half p =
        length-switches (wiring_of r.topology) (network r.size) (λ i. i * r.apart) p ∙ count_is r.size ∙ ap W H.size

  -- two places: one output switch, and so no step
  pair_is : (p : ℕ) → net.size ≡ 2 → switches_of net p ≡ layer_of 1 gap p 1
  unfolding switches layer_entries network network_in switch_count
  pair_is p h =
      ap (λ n. switches (wiring_of net.topology) (network n) (λ i. i * net.apart) p) h
      ∙ ap (λ q. layer_entries (λ s. (wiring_of net.topology).enc 1 s * net.apart) q 1)
      (let e : p + (0 + 0) + 0 ≡ p = omega arith in e)
      ∙ sym (ap (λ n. layer_entries (λ s. (wiring_of net.topology).enc (up n) s * net.apart) p 1) h) ∙ layer_is p 1
      ∙ ap (λ n. entry 7 n (n + gap) (p + 0) ∷ []) (zero-mul step)

  module _ (w o e : ℕ) (bits : List ℕ) {b l b' l' : List ℕ} (h : net.size ≡ 2) where
    pub pair : Ran w bits (layer_of 1 gap e 1) o e b l b' l' → (e + 1 ≡ e + W net.size) × Ran w bits (switches_of net e) o e b l b' l'
    pair r = (omega (arith, W_two net.size h), rw (pair_is e h) r)

    pub pair_back : Ran w bits (reverse (layer_of 1 gap (back_from bits e 1) 1)) o e b l b' l'
        → (e + 1 ≡ e + W net.size) × Ran w bits (reverse (switches_of net (back_from bits e (W net.size)))) o e b l b' l'
    pair_back r = (omega (arith, W_two net.size h), rw (pair_is (back_from bits e (W net.size)) h, W_two net.size h) r)

  module _ (two : 2 ≤ net.size) {top bottom : Net} (T : IsHalf net false top) (U : IsHalf net true bottom) where
    -- the top's switches at its own places, the bottom's a gap further, and the bits of each where those before end
    switches_split : (p p1 p2 p3 : ℕ) → p1 ≡ p + (up net.size - 1) → p2 ≡ p1 + W (up net.size) → p3 ≡ p2 + W (down net.size)
        → switches_of net p
        ≡ inputs net step gap p ++ (switches_of top p1 ++ (shifted gap (switches_of bottom p2) ++ outputs net step gap p3))
    unfolding switches
    switches_split p p1 p2 p3 at1 at2 at3 =
        let k = up net.size in
        let q2 : p + ((k - 1) + switch_count (network k)) ≡ p2 = omega (arith, count_is k) in
        let q3 : p + ((k - 1) + switch_count (network k)) + switch_count (network (down net.size)) ≡ p3 =
        omega (arith, count_is k, count_is (down net.size)) in
        let upper = half-switches T p1 ∙ shifted_none (switches_of top p1) in
        rw (network_more net.size two, q3, q2, ← at1)
        (λ j. layer_is p (k - 1) j ++ (upper j ++ (half-switches U p2 j ++ layer_is p3 (down net.size) j)))

    module _ (w o : ℕ) (bits : List ℕ) {e e1 e2 e3 : ℕ} {b l b1 l1 b2 l2 b3 l3 b4 l4 : List ℕ} (room : entry_words * e3 ≤ length l)
        (k1 : Same b l b1 l1) (k2 : Same b1 l1 b2 l2) (k3 : Same b2 l2 b3 l3) where
      pub applied : e1 ≡ e + (up net.size - 1) → e2 ≡ e1 + W (up net.size) → e3 ≡ e2 + W (down net.size)
          → Ran w bits (inputs net step gap e) o e b l b1 l1
          → Ran w bits (switches_of top e1) o e1 b1 l1 b2 l2
          → Ran w bits (shifted gap (switches_of bottom e2)) o e2 b2 l2 b3 l3
          → Ran w bits (outputs net step gap e3) o e3 b3 l3 b4 l4
          → Ran w bits (switches_of net e) o e b l b4 l4
      applied at1 at2 at3 r s t u =
          let n1 = length-layer_of step gap e (up net.size - 1) in
          let n3 = length-shifted gap (switches_of bottom e2) ∙ length-half U e2 in
          rw (switches_split e e1 e2 e3 at1 at2 at3)
          (stages w bits (omega (arith, n1)) (omega (arith, length-half T e1)) (omega (arith, n3)) room k1 k2 k3 r s t u)

      -- the return's bits begin where the entries that are left end
      pub returned : e + W net.size ≤ length bits
          → e1 ≡ e + down net.size → e2 ≡ e1 + W (down net.size) → e3 ≡ e2 + W (up net.size)
          → Ran w bits (reverse (outputs net step gap (back_from bits e (down net.size)))) o e b l b1 l1
          → Ran w bits (shifted gap (reverse (switches_of bottom (back_from bits e1 (W (down net.size)))))) o e1 b1 l1 b2 l2
          → Ran w bits (reverse (switches_of top (back_from bits e2 (W (up net.size))))) o e2 b2 l2 b3 l3
          → Ran w bits (reverse (inputs net step gap (back_from bits e3 (up net.size - 1)))) o e3 b3 l3 b4 l4
          → Ran w bits (reverse (switches_of net (back_from bits e (W net.size)))) o e b l b4 l4
      returned enough at1 at2 at3 r s t u =
          let P = begins (length bits) e e1 e2 e3 (up net.size - 1) (W (up net.size)) (W (down net.size)) (down net.size)
          (W net.size) (W_more net.size two ∙ omega arith) enough at1 at2 at3 in
          let p = back_from bits e (W net.size) in
          let p1 = back_from bits e2 (W (up net.size)) in
          let p2 = back_from bits e1 (W (down net.size)) in
          let p3 = back_from bits e (down net.size) in
          let lower = shifted gap (switches_of bottom p2) in
          let n1 = length-reverse (outputs net step gap p3) ∙ length-layer_of step gap p3 (down net.size) in
          let n2 = length-reverse lower ∙ length-shifted gap (switches_of bottom p2) ∙ length-half U p2 in
          let n3 = length-reverse (switches_of top p1) ∙ length-half T p1 in
          let s' = rw (shifted-reverse gap (switches_of bottom p2)) at s in
          let u' = rw P.at_inputs at u in
          rw (
            switches_split p p1 p2 p3 P.at_top P.at_bottom P.at_outputs,
            backwards (inputs net step gap p) (switches_of top p1) lower (outputs net step gap p3),
          )
          (stages w bits (omega (arith, n1)) (omega (arith, n2)) (omega (arith, n3)) room k1 k2 k3 r s' t u')

-- fewer than two places: no switch
module _ (net : Net) (w o e : ℕ) (bits : List ℕ) (b l : List ℕ) (h : net.size < 2) where
  counted_none : e ≡ e + W net.size
  counted_none = omega (arith, W_none net.size h)

  pub nothing : (e ≡ e + W net.size) × Ran w bits (switches_of net e) o e b l b l
  unfolding switches
  nothing = (counted_none, rw (network_none net.size h) (ran_none w bits o e b l))

  pub nothing-back : (e ≡ e + W net.size) × Ran w bits (reverse (switches_of net (back_from bits e (W net.size)))) o e b l b l
  unfolding switches
  nothing-back = (counted_none, rw (network_none net.size h) (ran_none w bits o e b l))
