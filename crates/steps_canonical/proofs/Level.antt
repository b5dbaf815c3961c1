-- One network, given what its halves do: the steps of a network set its bits canonically, sort its values, carry the trails
-- along and touch nothing else.
-- Assumes nothing.
use mathlib.Core.Path.{◌≡◌, refl, sym, ap, ◌∙◌}
use mathlib.Core.Logic.{◌≢◌, inl}
use mathlib.Core.Bool.{Bool, true, false, true≢false, false≢true}
use mathlib.Core.List.{List, ◌++◌}
use Prim.Native.Nat.{ℕ, ◌+◌, ◌-◌, ◌*◌, ◌≤◌, ◌<◌}
use native.Mathlib.Omega.{arith}
use lib.ListN.{length, get_or}
use Rattle.counts.specs.Counts.{up, W}
use Rattle.counts.proofs.Rule.{W_more}
use Rattle.network.specs.Wiring.{Wiring, Lawful, Side}
use Rattle.network.specs.Network.{Network, split, down}
use Rattle.permutation.specs.Permutations.{IsPermutation}
use Rattle.canonical.specs.Rule.{held, half, order_of_half, Canonical}
use Rattle.canonical.proofs.Halves.{feeder_of, half_at, top_permutation, bottom_permutation}
use Rattle.steps.specs.State.{State, Subnetwork, output_bit}
use Rattle.steps.specs.Steps.{digit, step5, step6}
use Rattle.steps.specs.Fold.{input_steps}
use Rattle.steps.proofs.Places.{Unlike, size_of, real, real⁻, sides_unlike}
use Rattle.steps_canonical.proofs.Parts.{part, length_part, part_split, same_part}
use Rattle.steps_canonical.specs.Table.{Holding}
use Rattle.steps_canonical.proofs.Table.{Off, Framed, framed_then, framed_wider, outside_wider}
use Rattle.steps_canonical.proofs.Rounds.{input_of}
use Rattle.steps_canonical.proofs.Turns.{turned_real}
use Rattle.steps_canonical.proofs.Entering.{Entered, entered}
use Rattle.steps_canonical.proofs.Leaving.{Halved, Left, left}

-- the steps of network N, whose shape is `net`, took the table from x to y
pub record Sets (w : Wiring) (net : Network) (N : Subnetwork) (o : List ℕ) (x y : State) : Type 0 where
  pub framed : Framed N N.bit (W N.size) x y
  pub sorted : (i : ℕ) → i < N.size → get_or y.values (N.place i) 0 ≡ i
  pub carried : (i : ℕ) → i < N.size → get_or y.trails (N.place (get_or o i 0)) 0 ≡ get_or x.trails (N.place i) 0
  pub canonical : Canonical w net o (part N.bit (W N.size) y.bits)

-- a half of a network: false is the top
abbrev pub half_bit : Subnetwork → Bool → ℕ
half_bit N false = N.bit + (up N.size - 1)
half_bit N true = N.bit + ((up N.size - 1) + W (up N.size))

abbrev pub half_of : Wiring → Subnetwork → Bool → Subnetwork
half_of w N t = record { place = λ i. N.place (w.enc (up N.size) (i, t)); size = size_of N.size t; bit = half_bit N t }

module _ {w : Wiring} (L : Lawful w) (N : Subnetwork) (U : Unlike N.size N.place) (two : 2 ≤ N.size) (o : List ℕ)
    (O : IsPermutation N.size o) (x : State) (H : Holding N o x) where
  abbrev m : ℕ
  m = N.size

  abbrev k : ℕ
  k = up N.size

  abbrev at : Side → ℕ
  at p = N.place (w.enc (up N.size) p)

  some : 0 < N.size
  some = omega arith

  abbrev z : State
  z = step5 w N (input_steps w N x)

  E : Entered L N U two o O x H z
  E = entered L N U two o O x H

  abbrev input : List ℕ
  input = input_of N z.bits

  -- the order of a half
  abbrev pub order_in : Bool → List ℕ
  order_in t = order_of_half w (up N.size) o (input_of N (step5 w N (input_steps w N x)).bits) t (size_of N.size t)

  pub half-order : (t : Bool) → IsPermutation (size_of N.size t) (order_in t)
  half-order false = top_permutation L m some o O input E.parted.count E.parted.apart
  half-order true = bottom_permutation L m some o O input E.parted.count E.parted.apart

  count : W m ≡ (k - 1) + (W k + (W (down m) + down m))
  count = W_more m two ∙ omega arith

  -- a half's places and bits are the network's, and none of the other half
  half_off : (t : Bool) (q : ℕ) → Off N q → Off (half_of w N t) q
  half_off t q d i l = d (w.enc k (i, t)) (real w L m t i l)

  pub half-apart : (s t : Bool) → s ≢ t → (i : ℕ) → i < size_of m s → Off (half_of w N t) (at (i, s))
  half-apart s t d i l j lj e = d (ap (λ (p : Side). p.1) (sides_unlike w L m N.place U s t i j l lj e))

  half_fits : (t : Bool) → (N.bit ≤ half_bit N t) × (half_bit N t + W (size_of m t) ≤ N.bit + W m)
  half_fits false = (omega arith, omega (arith, count))
  half_fits true = (omega arith, omega (arith, count))

  half_small : (t : Bool) → up (size_of m t) ≤ k
  half_small false = omega arith
  half_small true = omega arith

  -- a table that the network's steps came to: it has the room that the first had
  holding : (t : Bool) (b n : ℕ) (y : State) → Framed N b n x y
      → ((i : ℕ) → i < size_of m t → get_or y.values (at (i, t)) 0 ≡ get_or z.values (at (i, t)) 0)
      → Holding (half_of w N t) (order_in t) y
  holding t b n y F same =
      record {
        values_room = λ i l. rw F.values_length (H.values_room _ (real w L m t i l));
        trails_room = λ i l. rw F.trails_length (H.trails_room _ (real w L m t i l));
        marks_room = omega (arith, F.marks_length, H.marks_room, half_small t);
        bits_room = omega (arith, F.bits_length, H.bits_room, (half_fits t).1);
        unmarked = F.unmarked;
        order = λ i l. same i l ∙ E.value_at i t l ∙ sym (half_at w k o input t (size_of m t) i l);
      }

  pub top_holding : Holding (half_of w N false) (order_in false) z
  top_holding = holding false N.bit (k - 1) z E.framed (λ i l. refl)

  -- the top's steps were done
  module _ (top : Network) (a : State) (A : Sets w top (half_of w N false) (order_in false) z a) where
    widen : (t : Bool) (net : Network) (v y : State) (order : List ℕ) → Sets w net (half_of w N t) order v y
        → Framed N N.bit (W m) v y
    widen t net v y order S =
        framed_wider N N.bit (W m) (half_off t)
        (λ q d. outside_wider (half_bit N t) (W (size_of m t)) N.bit (W m) q (half_fits t).0 (half_fits t).1 d)
        S.framed

    to-z : Framed N N.bit (W m) x z
    to-z =
        framed_wider N N.bit (W m) (λ q d. d)
        (λ q d. outside_wider N.bit (k - 1) N.bit (W m) q (omega arith) (omega (arith, count)) d)
        E.framed

    to-a : Framed N N.bit (W m) x a
    to-a = framed_then to-z (widen false top z a (order_in false) A)

    pub bottom_holding : Holding (half_of w N true) (order_in true) a
    bottom_holding =
        holding true N.bit (W m) a to-a
        (λ i l. A.framed.values_off (at (i, true)) (half-apart true false true≢false i l))

    -- the bottom's steps were done
    module _ (bottom : Network) (b : State) (B : Sets w bottom (half_of w N true) (order_in true) a b) where
      to-b : Framed N N.bit (W m) x b
      to-b = framed_then to-a (widen true bottom a b (order_in true) B)

      pub value_in : (j : ℕ) (t : Bool) → j < size_of m t → get_or b.values (at (j, t)) 0 ≡ j
      value_in j false l = B.framed.values_off (at (j, false)) (half-apart false true false≢true j l) ∙ A.sorted j l
      value_in j true l = B.sorted j l

      -- a trail went with its value through its half
      through : (t : Bool) (i : ℕ) → i < size_of m t
          → get_or b.trails (at (get_or (order_in t) i 0, t)) 0 ≡ get_or z.trails (at (i, t)) 0
      through false i l =
          B.framed.trails_off _ (half-apart false true false≢true (get_or (order_in false) i 0) ((half-order false).below i l))
          ∙ A.carried i l
      through true i l = B.carried i l ∙ A.framed.trails_off (at (i, true)) (half-apart true false true≢false i l)

      trail_in : (p : Side) → p.0 < k → w.enc k p < m
          → get_or b.trails (at ((held w k o p).0, half input p)) 0 ≡ get_or x.trails (at p) 0 * 2 + digit (held w k o p).1
      trail_in p l q =
          ap (λ (r : Side). get_or b.trails (at ((held w k o r).0, t)) 0) (sym (feeder_of input p))
          ∙ ap (λ i. get_or b.trails (at (i, t)) 0) (sym (half_at w k o input t (size_of m t) p.0 inside))
          ∙ through t p.0 inside
          ∙ E.trail_at p.0 t inside
          ∙ ap (λ (r : Side). get_or x.trails (at r) 0 * 2 + digit (held w k o r).1) (feeder_of input p)
        where
          t : Bool
          t = half input p

          inside : p.0 < size_of m t
          inside =
              turned_real L m N.place U z.bits N.bit (k - 1) (omega arith)
              (omega (arith, E.framed.bits_length, H.bits_room, count))
              p.0 p.1 (real⁻ w L m p l q)

      halved : Halved L N U some o O input E.parted.count E.parted.apart (λ i. get_or x.trails (N.place i) 0) b
      halved =
          record {
            values_room = λ i l. rw to-b.values_length (H.values_room i l);
            trails_room = λ i l. rw to-b.trails_length (H.trails_room i l);
            bits_room = omega (arith, to-b.bits_length, H.bits_room, count);
            unmarked = to-b.unmarked;
            value_at = value_in;
            trail_at = trail_in;
          }

      abbrev y : State
      y = step6 w N b

      leaves : Left L N U some o O input E.parted.count E.parted.apart (λ i. get_or x.trails (N.place i) 0) b halved y
      leaves = left L N U some o O input E.parted.count E.parted.apart (λ i. get_or x.trails (N.place i) 0) b halved

      out_is : output_bit N ≡ N.bit + ((k - 1) + (W k + W (down m)))
      out_is = omega (arith, count)

      b-to-y : Framed N N.bit (W m) b y
      b-to-y =
          framed_wider N N.bit (W m) (λ q d. d)
          (λ q d. outside_wider (output_bit N) (down m) N.bit (W m) q (omega arith) (omega (arith, count)) d)
          leaves.framed

      to-y : Framed N N.bit (W m) x y
      to-y = framed_then to-b b-to-y

      -- the parts of the bits stay as their steps left them
      stays : (c n : ℕ) (v : State) → Framed N N.bit (W m) x v → c + n ≤ N.bit + W m
          → ((q : ℕ) → c ≤ q → q < c + n → get_or y.bits q 0 ≡ get_or v.bits q 0)
          → part c n y.bits ≡ part c n v.bits
      stays c n v F h same =
          same_part c n v.bits y.bits (omega (arith, F.bits_length, H.bits_room))
          (to-y.bits_length ∙ sym F.bits_length)
          same

      input_stays : part N.bit (k - 1) y.bits ≡ input
      input_stays =
          stays N.bit (k - 1) z to-z (omega (arith, count))
          (λ q l h.
          leaves.framed.bits_off q (inl (omega (arith, out_is)))
          ∙ B.framed.bits_off q (inl (omega arith))
          ∙ A.framed.bits_off q (inl (omega arith)))

      top_stays : part (half_bit N false) (W k) y.bits ≡ part (half_bit N false) (W k) a.bits
      top_stays =
          stays (half_bit N false) (W k) a to-a (half_fits false).1
          (λ q l h. leaves.framed.bits_off q (inl (omega (arith, out_is))) ∙ B.framed.bits_off q (inl (omega arith)))

      bottom_stays : part (half_bit N true) (W (down m)) y.bits ≡ part (half_bit N true) (W (down m)) b.bits
      bottom_stays =
          stays (half_bit N true) (W (down m)) b to-b (half_fits true).1
          (λ q l h. leaves.framed.bits_off q (inl (omega (arith, out_is))))

      abbrev input_bits : List ℕ
      input_bits = part N.bit (k - 1) y.bits

      abbrev top_bits : List ℕ
      top_bits = part (half_bit N false) (W k) y.bits

      abbrev bottom_bits : List ℕ
      bottom_bits = part (half_bit N true) (W (down m)) y.bits

      abbrev output_bits : List ℕ
      output_bits = part (output_bit N) (down m) y.bits

      in_parts : part N.bit (W m) y.bits ≡ input_bits ++ (top_bits ++ (bottom_bits ++ output_bits))
      in_parts =
          ap (λ n. part N.bit n y.bits) count
          ∙ part_split N.bit (k - 1) (W k + (W (down m) + down m)) y.bits
          ∙ ap (λ l. input_bits ++ l) (part_split (half_bit N false) (W k) (W (down m) + down m) y.bits)
          ∙ ap (λ l. input_bits ++ (top_bits ++ l))
          (ap (λ c. part c (W (down m) + down m) y.bits) after_top_lem
          ∙ part_split (half_bit N true) (W (down m)) (down m) y.bits
          ∙ ap (λ c. bottom_bits ++ part c (down m) y.bits) after_bottom_lem)
        where
          after_top_lem : half_bit N false + W k ≡ half_bit N true
          after_top_lem = omega arith

          after_bottom_lem : half_bit N true + W (down m) ≡ output_bit N
          after_bottom_lem = omega (arith, out_is)

      output_count : length output_bits ≡ down m
      output_count =
          length_part (output_bit N) (down m) y.bits (omega (arith, to-y.bits_length, H.bits_room, count, out_is))

      pub level : Sets w (split N.size top bottom) N o x (step6 w N b)
      unfolding Canonical
      level =
          record {
            framed = to-y;
            sorted = leaves.sorted;
            carried = leaves.carried;
            canonical =
                record {
                  input = input;
                  top = part (half_bit N false) (W k) a.bits;
                  bottom = part (half_bit N true) (W (down m)) b.bits;
                  output = output_bits;
                  in_sequence = in_parts ∙ rw (input_stays, top_stays, bottom_stays);
                  settled =
                      record {
                        input_count = E.parted.count;
                        output_count = output_count;
                        input_are_bits = E.parted.bits;
                        apart = E.parted.apart;
                        lowest_straight = E.parted.lowest;
                        finished = leaves.finishes;
                      };
                  in_top = A.canonical;
                  in_bottom = B.canonical;
                };
          }
