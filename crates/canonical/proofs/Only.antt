-- There is only one canonical setting of a permutation; it has W n bits, each 0 or 1.
-- Assumes nothing.
use mathlib.Core.Path.{◌≡◌, refl, sym, ap, ◌∙◌, subst}
use mathlib.Core.Bool.{Bool, true, false, cond}
use mathlib.Core.List.{List, ◌++◌}
use Prim.Native.Nat.{ℕ, ◌+◌, ◌-◌, ◌≤◌, ◌<◌}
use native.Mathlib.Omega.{arith}
use native.Mathlib.Decide.{dec_lt}
use borrow.Author.Tests.{eqb-true, eqb-false}
use lib.ListN.{length, get_or, length-append, get_or-append}
use lib.Seq.{ext_get_or, get_or-append-add}
use lib.Dec.{eqb}
use Rattle.bits.specs.Bits.{Bits}
use Rattle.counts.specs.Counts.{up, W}
use Rattle.network.specs.Wiring.{Wiring, Lawful}
use Rattle.network.specs.Network.{Network, wires, split, network, switch_count, down}
use Rattle.network.proofs.Shape.{Sized, none, some, sized, count_is}
use Rattle.permutation.specs.Permutations.{IsPermutation}
use Rattle.canonical.specs.Rule.{half, Finished, order_of_half, Settled, SettledWith, Canonical, ExactlyOne}
use Rattle.canonical.proofs.Rings.{unique}
use Rattle.canonical.proofs.Sides.{bits_within, bit_at, bit_below}
use Rattle.canonical.proofs.Held.{seat, seat-below, seat_holds, mate, matching, apart_proper, lowest_ruled}
use Rattle.canonical.proofs.Halves.{fits, top_permutation, bottom_permutation}
use Rattle.canonical.proofs.Setting.{setting, canonical_exists}

-- ---- its length

pub canonical_count : (w : Wiring) (net : Network) (o bits : List ℕ) → Canonical w net o bits → length bits ≡ switch_count net
unfolding Canonical switch_count
canonical_count w wires o bits C = ap length C
canonical_count w (split m top bottom) o bits C =
    let S = C.settled in
    ap length C.in_sequence
    ∙ simp length-append
    (omega (arith, S.input_count, S.output_count, canonical_count w top _ C.top C.in_top, canonical_count w bottom _ C.bottom C.in_bottom))

pub canonical_length : (w : Wiring) (n : ℕ) (o bits : List ℕ) → Canonical w (network n) o bits → length bits ≡ W n
canonical_length w n o bits C = canonical_count w (network n) o bits C ∙ count_is n

-- ---- lists of bits

bits_append : (xs ys : List ℕ) → Bits xs → Bits ys → Bits (xs ++ ys)
unfolding Bits
bits_append xs ys X Y i = go (dec_lt i (length xs))
  where
    go : Dec (i < length xs) → get_or (xs ++ ys) i 0 < 2
    go (yes h) = rw (get_or-append xs ys 0 i h) (X i)
    go (no h) =
        let j = i - length xs in
        let e : length xs + j ≡ i = omega arith in
        subst (λ i. get_or (xs ++ ys) i 0 < 2) e
        (rw (get_or-append-add xs ys j 0) (Y j))

same_bit : (a b : ℕ) → a < 2 → b < 2 → eqb a 1 ≡ eqb b 1 → a ≡ b
same_bit a b h l e = go (eqb a 1) refl
  where
    go : (t : Bool) → eqb a 1 ≡ t → a ≡ b
    go true q = eqb-true a 1 q ∙ sym (eqb-true b 1 (sym e ∙ q))
    go false q = omega (arith, eqb-false a 1 q, eqb-false b 1 (sym e ∙ q))

-- ---- one network

module _ {w : Wiring} (L : Lawful w) (m : ℕ) (two : 2 ≤ m) (o : List ℕ) (O : IsPermutation m o) where
  -- the input bits of a network are settled by the rule
  pub same_input : (a b c d : List ℕ) → Settled w m o a b → Settled w m o c d → a ≡ c
  unfolding Bits
  same_input a b c d A C =
      let k = up m in
      let f = fits L m (omega arith) o O in
      let la = A.input_count in
      let lc = C.input_count in
      ext_get_or 0 a c (la ∙ sym lc)
      (λ i l. same_bit (get_or a i 0) (get_or c i 0) (A.input_are_bits i) (C.input_are_bits i)
      (unique k (mate w k o) (matching L k m f o O) (bit_at a) (bit_at c)
      (apart_proper L k m f o O a A.apart)
      (apart_proper L k m f o O c C.apart)
      (lowest_ruled L k m f o O a (omega arith) A.input_are_bits A.lowest_straight)
      (lowest_ruled L k m f o O c (omega arith) C.input_are_bits C.lowest_straight)
      i
      (omega arith)))

  -- and so are its output bits
  output-at : (a b : List ℕ) → Settled w m o a b → (j : ℕ) → j < down m
      → get_or b j 0 ≡ cond (half a (seat w (up m) o (j, true))) 0 1
  unfolding Finished
  output-at a b A j l =
      let k = up m in
      let f = fits L m (omega arith) o O in
      A.finished j l (seat w k o (j, true)) (seat-below L k m f o O (j, true) (omega arith)) (seat_holds L k m f o O (j, true) (omega arith))

  pub same_output : (a b d : List ℕ) → Settled w m o a b → Settled w m o a d → b ≡ d
  same_output a b d A C =
      let lb = A.output_count in
      let ld = C.output_count in
      ext_get_or 0 b d (lb ∙ sym ld) (λ j l. output-at a b A j (omega arith) ∙ sym (output-at a d C j (omega arith)))

  pub output_are_bits : (a b : List ℕ) → Settled w m o a b → Bits b
  output_are_bits a b A =
      let lb = A.output_count in
      bits_within b (λ j l. rw (output-at a b A j (omega arith)) (bit_below (half a (seat w (up m) o (j, true)))))

  -- and so is all, if the halves are
  module _
      (Top Bottom : List ℕ → List ℕ → Type 0)
      (one-top : (q : List ℕ) → IsPermutation (up m) q → (a b : List ℕ) → Top q a → Top q b → a ≡ b)
      (one-bottom : (q : List ℕ) → IsPermutation (down m) q → (a b : List ℕ) → Bottom q a → Bottom q b → a ≡ b)
    where
      same_with : (a b : List ℕ) → SettledWith w m Top Bottom o a → SettledWith w m Top Bottom o b → a ≡ b
      same_with a b A B = A.in_sequence ∙ rw (input, tops, bottoms, output) refl ∙ sym B.in_sequence
        where
          input : A.input ≡ B.input
          input = same_input A.input A.output B.input B.output A.settled B.settled

          S : Settled w m o B.input A.output
          S = subst (λ i. Settled w m o i A.output) input A.settled

          tops : A.top ≡ B.top
          tops =
              one-top (order_of_half w (up m) o B.input false (up m))
              (top_permutation L m (omega arith) o O B.input S.input_count S.apart)
              A.top
              B.top
              (subst (λ i. Top (order_of_half w (up m) o i false (up m)) A.top) input A.in_top)
              B.in_top

          bottoms : A.bottom ≡ B.bottom
          bottoms =
              one-bottom (order_of_half w (up m) o B.input true (down m))
              (bottom_permutation L m (omega arith) o O B.input S.input_count S.apart)
              A.bottom
              B.bottom
              (subst (λ i. Bottom (order_of_half w (up m) o i true (down m)) A.bottom) input A.in_bottom)
              B.in_bottom

          output : A.output ≡ B.output
          output = same_output B.input A.output B.output S B.settled

-- ---- all networks

pub canonical_unique_of : {w : Wiring} → Lawful w → {m : ℕ} {net : Network} → Sized m net → (o : List ℕ) → IsPermutation m o
    → (a b : List ℕ) → Canonical w net o a → Canonical w net o b → a ≡ b
unfolding Canonical
canonical_unique_of L (none h) o O a b A B = A ∙ sym B
canonical_unique_of {w} L {m} (some {top = top} {bottom = bottom} h t u) o O a b A B =
    same_with L m h o O (Canonical w top) (Canonical w bottom) (λ q Q. canonical_unique_of L t q Q) (λ q Q. canonical_unique_of L u q Q) a b A B

-- two canonical settings of one order are equal
pub canonical_unique : {w : Wiring} → Lawful w → (n : ℕ) (o : List ℕ) → IsPermutation n o
    → (a b : List ℕ) → Canonical w (network n) o a → Canonical w (network n) o b → a ≡ b
canonical_unique L n o O = canonical_unique_of L (sized n) o O

pub canonical_bits_of : {w : Wiring} → Lawful w → {m : ℕ} {net : Network} → Sized m net → (o : List ℕ) → IsPermutation m o
    → (a : List ℕ) → Canonical w net o a → Bits a
unfolding Canonical
canonical_bits_of L (none h) o O a A = bits_within a (λ i l. absurd (omega (arith, ap length A)))
canonical_bits_of {w} L {m} (some {top = top} {bottom = bottom} h t u) o O a A =
    let S = A.settled in
    subst Bits (sym A.in_sequence)
    (bits_append A.input _ S.input_are_bits
    (bits_append A.top _ (canonical_bits_of L t _ (top_permutation L m (omega arith) o O A.input S.input_count S.apart) A.top A.in_top)
    (bits_append A.bottom A.output
    (canonical_bits_of L u _ (bottom_permutation L m (omega arith) o O A.input S.input_count S.apart) A.bottom A.in_bottom)
    (output_are_bits L m h o O A.input A.output S))))

pub canonical_bits : {w : Wiring} → Lawful w → (n : ℕ) (o : List ℕ) → IsPermutation n o
    → (a : List ℕ) → Canonical w (network n) o a → Bits a
canonical_bits L n o O = canonical_bits_of L (sized n) o O

-- exactly one setting of each order obeys the rule
pub exactly_one : {w : Wiring} → Lawful w → (n : ℕ) (o : List ℕ) → IsPermutation n o → ExactlyOne w n o
exactly_one {w} L n o O =
    record {
      setting = setting w (network n) o;
      canonical = canonical_exists L n o O;
      only = λ bits C. canonical_unique L n o O bits (setting w (network n) o) C (canonical_exists L n o O);
    }
