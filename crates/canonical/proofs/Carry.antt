-- A canonical setting carries its order: mixing takes the item at each place i to place o[i], and returning brings it back.
-- Assumes nothing.
use mathlib.Core.Path.{◌≡◌, refl, sym, ap, ◌∙◌, subst}
use mathlib.Core.Bool.{Bool, true, false, cond}
use mathlib.Core.List.{List, [], ◌++◌, append_assoc, append-nil}
use Prim.Native.Nat.{ℕ, ◌-◌, ◌≤◌, ◌<◌}
use native.Mathlib.Omega.{arith}
use lib.ListN.{length, get_or}
use lib.Seq.{ext_get_or, drop_at}
use Rattle.counts.specs.Counts.{up}
use Rattle.network.specs.Wiring.{Wiring, Lawful, Side}
use Rattle.network.specs.Network.{Network, network, switch_count, down}
use Rattle.network.specs.Move.{forward, backward}
use Rattle.network.specs.Blocks.{order_of}
use Rattle.network.proofs.Shape.{Sized, none, some, sized}
use Rattle.network.proofs.Places.{Lies, crosses, below_lies}
use Rattle.network.proofs.Where.{goes_to, across, through, in_halves}
use Rattle.network.proofs.Order.{length-order, order-at, order-forward, order-backward}
use Rattle.permutation.specs.Permutations.{IsPermutation}
use Rattle.canonical.specs.Rule.{held, half, order_of_half, Settled, Canonical}
use Rattle.canonical.specs.Carry.{Carries, BringsHome}
use Rattle.canonical.proofs.Sides.{bit_at, turn, turn-turn}
use Rattle.canonical.proofs.Held.{entry_in, held_at}
use Rattle.canonical.proofs.Halves.{feeder, feeder_of, half_at, fits, top_permutation, bottom_permutation, out_law}
use Rattle.canonical.proofs.Through.{entered_lies, leaves, through-leaves}
use Rattle.canonical.proofs.Only.{canonical_count}

-- ---- one network, whose halves carry their orders

module _
    {w : Wiring} (L : Lawful w) (m : ℕ) (two : 2 ≤ m) (o : List ℕ) (O : IsPermutation m o)
    (input output rest tail : List ℕ) (S : Settled w m o input output) (f g : ℕ → ℕ)
    (tops : (i : ℕ) → i < up m → f i ≡ get_or (order_of_half w (up m) o input false (up m)) i 0)
    (bottoms : (i : ℕ) → i < down m → g i ≡ get_or (order_of_half w (up m) o input true (down m)) i 0)
  where
    abbrev k : ℕ
    k = up m

    -- the half takes an item to the pair of its value
    in_half : (p : Side) (t : Bool) → p.0 < up m → (t ≡ true → p.0 < down m) → half input p ≡ t
        → cond t (g p.0) (f p.0) ≡ (held w (up m) o p).0
    in_half p t l h e = enter t h ∙ ap (λ (r : Side). (held w k o r).0) (ap (λ t. feeder input t p.0) (sym e) ∙ feeder_of input p)
      where
        enter : (t : Bool) → (t ≡ true → p.0 < down m) → cond t (g p.0) (f p.0) ≡ (held w k o (feeder input t p.0)).0
        enter false h = tops p.0 l ∙ half_at w k o input false k p.0 l
        enter true h = bottoms p.0 (h refl) ∙ half_at w k o input true (down m) p.0 (h refl)

    -- and the output switch to its side
    leaves-held : (p : Side) → Lies m p → leaves input output f g p ≡ held w (up m) o p
    unfolding half
    leaves-held p l =
        let v = held w k o p in
        ap (λ j. (j, half output (j, half input p))) (in_half p (half input p) l.pair (entered_lies m input S.input_count p l).other refl)
        ∙ (λ i. (v.0, turn (bit_at output v.0) (sym (out_law L m (omega arith) o O input S.input_count S.apart output S.output_count S.finished p l.pair) i)))
        ∙ (λ i. (v.0, turn-turn (bit_at output v.0) v.1 i))

    level : (q : ℕ) → q < m
        → through w (up m) (crosses (up m - 1) (input ++ rest)) (in_halves f g) (crosses (down m) (output ++ tail)) q ≡ get_or o q 0
    level q h =
        let p : Side = w.dec k q in
        let l = below_lies L m q h in
        through-leaves input output f g w m rest tail S.input_count S.output_count q
        ∙ ap (w.enc k) (leaves-held p l)
        ∙ held_at L k m (fits L m (omega arith) o O) o O p l.pair
        ∙ ap (λ r. get_or o r r) (L.enc_dec k q (omega arith))
        ∙ entry_in m o O q h

-- ---- all networks

-- whatever bits follow those of the network
pub canonical_carries_of : {w : Wiring} → Lawful w → {m : ℕ} {net : Network} → Sized m net → (o : List ℕ) → IsPermutation m o
    → (bits rest : List ℕ) → Canonical w net o bits → (q : ℕ) → q < m → goes_to w net (bits ++ rest) q ≡ get_or o q 0
unfolding Canonical across
canonical_carries_of L (none z) o O bits rest C q h = omega (arith, O.below q h)
canonical_carries_of {w} L {m} (some {top = top} {bottom = bottom} two t u) o O bits rest C q h =
    let S = C.settled in
    let after_bottom = C.output ++ rest in
    let after_top = C.bottom ++ after_bottom in
    let after_input = C.top ++ after_top in
    let all : bits ++ rest ≡ C.input ++ after_input = ap (λ l. l ++ rest) C.in_sequence ∙ simp append_assoc in
    rw (
      all,
      drop_at C.input after_input (up m - 1) S.input_count,
      drop_at C.top after_top (switch_count top) (canonical_count w top _ C.top C.in_top),
      drop_at C.bottom after_bottom (switch_count bottom) (canonical_count w bottom _ C.bottom C.in_bottom),
    )
    (level L m two o O C.input C.output after_input rest S
    (goes_to w top after_input)
    (goes_to w bottom after_top)
    (canonical_carries_of L t _ (top_permutation L m (omega arith) o O C.input S.input_count S.apart) C.top after_top C.in_top)
    (canonical_carries_of L u _ (bottom_permutation L m (omega arith) o O C.input S.input_count S.apart) C.bottom after_bottom C.in_bottom)
    q
    h)

module _ {w : Wiring} (L : Lawful w) (n : ℕ) (o : List ℕ) (O : IsPermutation n o) (bits : List ℕ) (C : Canonical w (network n) o bits) where
  -- the order of the canonical setting of an order is that order
  pub canonical_order : order_of w n bits ≡ o
  canonical_order =
      ext_get_or 0 (order_of w n bits) o (length-order L n bits ∙ sym O.whole)
      (λ i l.
      let h : i < n = omega (arith, length-order L n bits) in
      order-at L n bits i h
      ∙ ap (λ b. goes_to w (network n) b i) (sym (append-nil bits))
      ∙ canonical_carries_of L (sized n) o O bits [] C i h)

  module _ {A : Type 0} (d : A) (xs : List A) (long : length xs ≡ n) where
    pub canonical_carries : Carries d w n o bits xs
    unfolding Carries
    canonical_carries i h =
        subst (λ q. get_or (forward d w (network n) bits xs) (get_or q i 0) d ≡ get_or xs i d) canonical_order
        (order-forward L n bits d xs long i h)

    pub canonical_brings_home : BringsHome d w n o bits xs
    unfolding BringsHome
    canonical_brings_home i h =
        subst (λ q. get_or (backward d w (network n) bits xs) i d ≡ get_or xs (get_or q i 0) d) canonical_order
        (order-backward L n bits d xs long i h)

-- so settings of two orders differ where the orders do
pub same_order : {w : Wiring} → Lawful w → (n : ℕ) (o q : List ℕ) → IsPermutation n o → IsPermutation n q
    → (bits : List ℕ) → Canonical w (network n) o bits → Canonical w (network n) q bits → o ≡ q
same_order L n o q O Q bits C D = sym (canonical_order L n o O bits C) ∙ canonical_order L n q Q bits D
