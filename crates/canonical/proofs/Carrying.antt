-- The other way round: a setting that moves the items by an order, and obeys the house rule in every network, is the canonical
-- setting of that order. So 'associates enter different halves and output switches finish the work' is what carrying means.
-- Assumes nothing.
use mathlib.Core.Path.{◌≡◌, refl, sym, ap, ◌∙◌, subst}
use mathlib.Core.Bool.{Bool, true, false, not, cond}
use mathlib.Core.List.{List, [], ◌++◌, append_assoc, append-nil}
use Prim.Native.Nat.{ℕ, suc, ◌-◌, ◌≤◌, ◌<◌}
use native.Mathlib.Omega.{arith}
use native.Mathlib.Decide.{dec_lt}
use borrow.Author.Tests.{eqb-true, eqb-false}
use lib.ListN.{length, get_or, length-append}
use lib.Seq.{drop_at}
use lib.Dec.{eqb}
use Rattle.bits.specs.Bits.{Bits}
use Rattle.counts.specs.Counts.{up}
use Rattle.network.specs.Wiring.{Wiring, Lawful, Side}
use Rattle.network.specs.Network.{Network, wires, split, network, switch_count, down}
use Rattle.network.specs.Blocks.{order_of}
use Rattle.network.proofs.Shape.{Sized, none, some, sized}
use Rattle.network.proofs.Places.{Lies, lies_top, lies_both, lies_below, crosses}
use Rattle.network.proofs.Where.{goes_to, across, across-below, through, in_halves, input, output}
use Rattle.network.proofs.Order.{order-at}
use Rattle.permutation.specs.Permutations.{IsPermutation}
use Rattle.canonical.specs.Rule.{held, half, Apart, Finished, order_of_half, Canonical}
use Rattle.canonical.specs.Obeys.{Obeys}
use Rattle.canonical.proofs.Sides.{bit_at, bit_at_past, turn}
use Rattle.canonical.proofs.Held.{entry_in}
use Rattle.canonical.proofs.Halves.{feeder, feeder-enters, half_at, imagined, top_permutation, bottom_permutation}
use Rattle.canonical.proofs.Only.{output_are_bits}
use Rattle.canonical.proofs.Through.{entered_lies, leaves_at, leaves, through-leaves}

obeys_count : (w : Wiring) (net : Network) (o bits : List ℕ) → Obeys w net o bits → length bits ≡ switch_count net
unfolding Obeys switch_count
obeys_count w wires o bits C = ap length C
obeys_count w (split m top bottom) o bits C =
    ap length C.in_sequence
    ∙ simp length-append
    (omega (arith, C.input_count, C.output_count, obeys_count w top _ C.top_bits C.in_top, obeys_count w bottom _ C.bottom_bits C.in_bottom))

-- a bit that turns a side to true
turn_true : (c s : Bool) → turn c s ≡ true → c ≡ not s
turn_true true true e = sym e
turn_true true false e = refl
turn_true false true e = refl
turn_true false false e = e

bit-number : (b : ℕ) (s : Bool) → b < 2 → eqb b 1 ≡ not s → b ≡ cond s 0 1
bit-number b true l e = omega (arith, eqb-false b 1 e)
bit-number b false l e = eqb-true b 1 e

-- ---- one network: each item leaves it at its value

module _
    {w : Wiring} (L : Lawful w) (m : ℕ) (two : 2 ≤ m) (o : List ℕ) (O : IsPermutation m o) (a b : List ℕ)
    (a-count : length a ≡ up m - 1) (b-count : length b ≡ down m) (f g : ℕ → ℕ)
    (carries : (p : Side) → Lies m p → leaves a b f g p ≡ held w (up m) o p)
  where
    abbrev k : ℕ
    k = up m

    -- the value's side is that of the half, turned over by the output bit
    side_is : (p : Side) → p.0 < up m → half b ((held w (up m) o p).0, half a p) ≡ (held w (up m) o p).1
    unfolding half
    side_is p l = go (dec_lt p.0 (down m)) p.1 refl
      where
        real : Lies m p → half b ((held w k o p).0, half a p) ≡ (held w k o p).1
        real h =
            let e = carries p h in
            ap (λ j. half b (j, half a p)) (sym (ap (λ (v : Side). v.0) e)) ∙ ap (λ (v : Side). v.1) e

        go : Dec (p.0 < down m) → (t : Bool) → p.1 ≡ t → half b ((held w k o p).0, half a p) ≡ (held w k o p).1
        go (yes x) t e = real (lies_both m p x)
        go (no x) false e = real (subst (Lies m) (λ i. (p.0, sym e i)) (lies_top m p.0 l))
        go (no x) true e =
            let I = imagined L m (omega arith) o O p.0 (omega arith) l in
            let itself : held w k o p ≡ (p.0, true) = (λ i. held w k o (p.0, e i)) ∙ I.holds_itself in
            let at : half a p ≡ true = (λ i. half a (p.0, e i)) ∙ last_straight_half p.0 I.last in
            ap (λ (v : Side). half b (v.0, half a p)) itself
            ∙ ap (λ c. turn c (half a p)) (bit_at_past b p.0 (omega arith))
            ∙ at
            ∙ sym (ap (λ (v : Side). v.1) itself)
          where
            last_straight_half : (j : ℕ) → suc j ≡ k → half a (j, true) ≡ true
            last_straight_half j q = ap (λ c. turn c true) (bit_at_past a j (omega arith))

    pub carries_apart : Apart w (up m) o a
    unfolding Apart
    carries_apart p q H e =
        H.two_sides
        (sym (side_is p H.first_below)
        ∙ ap (λ j. half b (j, half a p)) H.one_pair
        ∙ ap (λ t. half b ((held w k o q).0, t)) e
        ∙ side_is q H.second_below)

    pub carries_finished : Bits b → Finished w m o a b
    unfolding Finished Bits half
    carries_finished B j l p h e =
        let s : turn (bit_at b j) (half a p) ≡ true =
        ap (λ (v : Side). half b (v.0, half a p)) (sym e) ∙ side_is p h ∙ ap (λ (v : Side). v.1) e in
        bit-number (get_or b j 0) (half a p) (B j) (turn_true (bit_at b j) (half a p) s)

    -- the halves carry their orders
    in_half : (t : Bool) (c i : ℕ) → i < c → Lies m (i, t) → cond t (g i) (f i) ≡ get_or (order_of_half w (up m) o a t c) i 0
    in_half t c i l h =
        ap (λ u. cond u (g i) (f i)) (sym (feeder-enters a t i))
        ∙ ap (λ (v : Side). v.0) (carries (feeder a t i) (entered_lies m a a-count (i, t) h))
        ∙ sym (half_at w k o a t c i l)

    pub carries_top : (i : ℕ) → i < up m → f i ≡ get_or (order_of_half w (up m) o a false (up m)) i 0
    carries_top i l = in_half false k i l (lies_top m i l)

    pub carries_bottom : (i : ℕ) → i < down m → g i ≡ get_or (order_of_half w (up m) o a true (down m)) i 0
    carries_bottom i l = in_half true (down m) i l (lies_both m (i, true) l)

-- ---- all networks

module _
    {w : Wiring} (L : Lawful w) (m : ℕ) (o : List ℕ) (O : IsPermutation m o) (a b rest tail : List ℕ)
    (a-count : length a ≡ up m - 1) (b-count : length b ≡ down m) (f g : ℕ → ℕ)
    (f_below : (j : ℕ) → j < up m → f j < up m) (g_below : (j : ℕ) → j < down m → g j < down m)
    (goes : (q : ℕ) → q < m
    → through w (up m) (crosses (up m - 1) (a ++ rest)) (in_halves f g) (crosses (down m) (b ++ tail)) q ≡ get_or o q 0)
  where
    leaves-below : (p : Side) → Lies m p → leaves_at a b f g p < up m
    leaves-below p l = go (half a p) (entered_lies m a a-count p l).other
      where
        go : (t : Bool) → (t ≡ true → p.0 < down m) → cond t (g p.0) (f p.0) < up m
        go false h = f_below p.0 l.pair
        go true h = omega (arith, g_below p.0 (h refl))

    leaves-held : (p : Side) → Lies m p → leaves a b f g p ≡ held w (up m) o p
    unfolding held
    leaves-held p l =
        let k = up m in
        let q = w.enc k p in
        let q-below = lies_below L m p l in
        sym (L.dec_enc k (leaves a b f g p) (leaves-below p l))
        ∙ ap (λ (r : Side). w.dec k (w.enc k (leaves a b f g r))) (sym (L.dec_enc k p l.pair))
        ∙ ap (w.dec k) (sym (through-leaves a b f g w m rest tail a-count b-count q) ∙ goes q q-below ∙ sym (entry_in m o O q q-below))

pub carrying_canonical_of : {w : Wiring} → Lawful w → {m : ℕ} {net : Network} → Sized m net → (o : List ℕ) → IsPermutation m o
    → (bits rest : List ℕ) → Obeys w net o bits → ((q : ℕ) → q < m → goes_to w net (bits ++ rest) q ≡ get_or o q 0)
    → Canonical w net o bits
unfolding Canonical Obeys across
carrying_canonical_of L (none z) o O bits rest C goes = C
carrying_canonical_of {w} L {m} (some {top = top} {bottom = bottom} two t u) o O bits rest C goes =
    let a = C.input_bits in
    let b = C.output_bits in
    let after_bottom = b ++ rest in
    let after_top = C.bottom_bits ++ after_bottom in
    let after_input = C.top_bits ++ after_top in
    let f = goes_to w top after_input in
    let g = goes_to w bottom after_top in
    let all : bits ++ rest ≡ a ++ after_input = ap (λ l. l ++ rest) C.in_sequence ∙ simp append_assoc in
    let parted : (q : ℕ) → q < m
    → through w (up m) (crosses (up m - 1) (a ++ after_input)) (in_halves f g) (crosses (down m) (b ++ rest)) q ≡ get_or o q 0 =
    λ q h.
    rw (
      all,
      drop_at a after_input (up m - 1) C.input_count,
      drop_at C.top_bits after_top (switch_count top) (obeys_count w top _ C.top_bits C.in_top),
      drop_at C.bottom_bits after_bottom (switch_count bottom) (obeys_count w bottom _ C.bottom_bits C.in_bottom),
    ) at (goes q h) in
    let held = leaves-held L m o O a b after_input rest C.input_count C.output_count f g
    (across-below L input output t after_input) (across-below L input output u after_top) parted in
    let A = carries_apart L m two o O a b C.input_count C.output_count f g held in
    record {
      input = a;
      top = C.top_bits;
      bottom = C.bottom_bits;
      output = b;
      in_sequence = C.in_sequence;
      settled = record {
        input_count = C.input_count;
        output_count = C.output_count;
        input_are_bits = C.input_are_bits;
        apart = A;
        lowest_straight = C.lowest_straight;
        finished = carries_finished L m two o O a b C.input_count C.output_count f g held C.output_are_bits;
      };
      in_top = carrying_canonical_of L t _ (top_permutation L m (omega arith) o O a C.input_count A) C.top_bits after_top C.in_top
          (carries_top L m two o O a b C.input_count C.output_count f g held);
      in_bottom = carrying_canonical_of L u _ (bottom_permutation L m (omega arith) o O a C.input_count A) C.bottom_bits after_bottom C.in_bottom
          (carries_bottom L m two o O a b C.input_count C.output_count f g held);
    }

pub carrying_canonical : {w : Wiring} → Lawful w → (n : ℕ) (o : List ℕ) → IsPermutation n o
    → (bits : List ℕ) → Obeys w (network n) o bits → order_of w n bits ≡ o → Canonical w (network n) o bits
carrying_canonical {w} L n o O bits C e =
    carrying_canonical_of L (sized n) o O bits [] C
    (λ q h.
    ap (λ l. goes_to w (network n) l q) (append-nil bits)
    ∙ sym (order-at L n bits q h)
    ∙ ap (λ l. get_or l q 0) e)

-- and so the canonical setting of an order is the one that carries it and obeys the rule
pub canonical_obeys_of : {w : Wiring} → Lawful w → {m : ℕ} {net : Network} → Sized m net → (o : List ℕ) → IsPermutation m o
    → (bits : List ℕ) → Canonical w net o bits → Obeys w net o bits
unfolding Canonical Obeys
canonical_obeys_of L (none z) o O bits C = C
canonical_obeys_of {w} L {m} (some two t u) o O bits C =
    let S = C.settled in
    record {
      input_bits = C.input;
      top_bits = C.top;
      bottom_bits = C.bottom;
      output_bits = C.output;
      in_sequence = C.in_sequence;
      input_count = S.input_count;
      output_count = S.output_count;
      input_are_bits = S.input_are_bits;
      output_are_bits = output_are_bits L m two o O C.input C.output S;
      lowest_straight = S.lowest_straight;
      in_top = canonical_obeys_of L t _ (top_permutation L m (omega arith) o O C.input S.input_count S.apart) C.top C.in_top;
      in_bottom = canonical_obeys_of L u _ (bottom_permutation L m (omega arith) o O C.input S.input_count S.apart) C.bottom C.in_bottom;
    }

pub canonical_obeys : {w : Wiring} → Lawful w → (n : ℕ) (o : List ℕ) → IsPermutation n o
    → (bits : List ℕ) → Canonical w (network n) o bits → Obeys w (network n) o bits
canonical_obeys L n o O = canonical_obeys_of L (sized n) o O
