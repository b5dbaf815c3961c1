-- After the halves: step 6 sets the output bits as the rule asks, and leaves each value at its own place with the trail that
-- it had before the network.
-- Assumes nothing.
use mathlib.Core.Path.{◌≡◌, refl, sym, ap, ◌∙◌, subst}
use mathlib.Core.Logic.{◌≢◌, inl, inr}
use mathlib.Core.Bool.{Bool, true, false}
use mathlib.Core.List.{List}
use Prim.Native.Nat.{ℕ, ◌+◌, ◌-◌, ◌*◌, ◌/◌, ◌%◌, ◌≤◌, ◌<◌}
use native.Mathlib.Omega.{arith}
use native.Mathlib.Decide.{dec_lt}
use lib.ListN.{length, get_or}
use Rattle.counts.specs.Counts.{up}
use Rattle.network.specs.Wiring.{Wiring, Lawful, Side}
use Rattle.network.specs.Network.{down}
use Rattle.permutation.specs.Permutations.{IsPermutation}
use Rattle.canonical.specs.Rule.{held, half, Apart, Finished}
use Rattle.canonical.proofs.Halves.{feeder, feeder-enters, fits, out_law}
use Rattle.canonical.proofs.Steps.{sides_finish}
use Rattle.canonical.proofs.Held.{entry_in, entry_past, held_at, held_below}
use Rattle.canonical.proofs.Held.{seat, seat-below, seat_holds}
use Rattle.steps.specs.Sweeps.{act, each}
use Rattle.steps.specs.State.{State, Subnetwork, output_bit}
use Rattle.steps.specs.Steps.{digit, step6}
use Rattle.steps.proofs.Places.{Unlike, size_of, real, real⁻}
use Rattle.steps.proofs.Sweeps.{length-each, each_at, each_off, length-act}
use Rattle.steps_canonical.proofs.Parts.{part, length_part, part_at}
use Rattle.steps_canonical.proofs.Round.{digit_is}
use Rattle.steps_canonical.proofs.Turns.{turned_real, turned_off, turned-at}
use Rattle.steps_canonical.proofs.Table.{Off, Outside, Framed}

last_digit : (t : ℕ) (u : Bool) → (t * 2 + digit u) % 2 ≡ digit u
last_digit t true = omega arith
last_digit t false = omega arith

other-digits : (t : ℕ) (u : Bool) → (t * 2 + digit u) / 2 ≡ t
other-digits t true = omega arith
other-digits t false = omega arith

module _ {w : Wiring} (L : Lawful w) (N : Subnetwork) (U : Unlike N.size N.place) (some : 0 < N.size) (o : List ℕ)
    (O : IsPermutation N.size o) (input : List ℕ) (count : length input ≡ up N.size - 1)
    (A : Apart w (up N.size) o input) where
  abbrev m : ℕ
  m = N.size

  abbrev k : ℕ
  k = up N.size

  abbrev h : ℕ
  h = down N.size

  abbrev at : Side → ℕ
  at p = N.place (w.enc (up N.size) p)

  -- each half has sorted its values, and each trail went with its value: t is the trail that stood at a place before
  pub record Halved (t : ℕ → ℕ) (x : State) : Type 0 where
    pub values_room : (i : ℕ) → i < N.size → N.place i < length x.values
    pub trails_room : (i : ℕ) → i < N.size → N.place i < length x.trails
    pub bits_room : output_bit N + down N.size ≤ length x.bits
    pub unmarked : (i : ℕ) → get_or x.marks i 0 ≡ 0
    pub value_at : (j : ℕ) (s : Bool) → j < size_of N.size s → get_or x.values (at (j, s)) 0 ≡ j
    pub trail_at : (p : Side) → p.0 < up N.size → w.enc (up N.size) p < N.size
        → get_or x.trails (at ((held w (up N.size) o p).0, half input p)) 0
        ≡ t (w.enc (up N.size) p) * 2 + digit (held w (up N.size) o p).1

  module _ (t : ℕ → ℕ) (x : State) (H : Halved t x) where
    abbrev bits' : List ℕ
    bits' = each (λ i. output_bit N + i) h (λ i bit. get_or x.trails (at (i, false)) 0 % 2) x.bits

    abbrev output : List ℕ
    output = part (output_bit N) h bits'

    bits_length : length bits' ≡ length x.bits
    bits_length = length-each (λ i. output_bit N + i) _ x.bits h

    room : output_bit N + h ≤ length bits'
    room = omega (arith, bits_length, H.bits_room)

    output_count : length output ≡ h
    output_count = length_part (output_bit N) h bits' room

    output-at : (j : ℕ) → j < h → get_or output j 0 ≡ get_or x.trails (at (j, false)) 0 % 2
    unfolding Unlike
    output-at j l =
        part_at (output_bit N) h bits' j l
        ∙ each_at (λ i. output_bit N + i) _ x.bits h (λ a b _ _ e. omega arith) (λ i li. omega (arith, H.bits_room)) j l

    -- a place whose value has an output switch is real
    switched_real : (p : Side) → p.0 < k → (held w k o p).0 < h → w.enc k p < m
    unfolding held
    switched_real p l d = go (dec_lt (w.enc k p) m)
      where
        go : Dec (w.enc k p < m) → w.enc k p < m
        go (yes q) = q
        go (no q) =
            let e : held w k o p ≡ p = ap (w.dec k) (entry_past m o O (w.enc k p) (omega arith)) ∙ L.dec_enc k p l in
            let b : p.0 < h = subst (λ (r : Side). r.0 < h) e d in
            real w L m p.1 p.0 (both p.1 b)
          where
            both : (s : Bool) → p.0 < h → p.0 < size_of m s
            both false b = l
            both true b = b

    -- an item of the top whose value is of pair j leaves its side as output bit j
    from_top_lem : (p : Side) → p.0 < k → (held w k o p).0 < h → half input p ≡ false
        → get_or output (held w k o p).0 0 ≡ digit (held w k o p).1
    from_top_lem p l d e =
        output-at (held w k o p).0 d
        ∙ ap (λ s. get_or x.trails (at ((held w k o p).0, s)) 0 % 2) (sym e)
        ∙ ap (λ q. q % 2) (H.trail_at p l (switched_real p l d))
        ∙ last_digit (t (w.enc k p)) (held w k o p).1

    pub finished : Finished w N.size o input output
    finished =
        sides_finish L m some o O input count A output
        (λ i l d. from_top_lem (feeder input false i) l d (feeder-enters input false i))

    -- the switches act: each item comes to the side of its value
    abbrev values' : List ℕ
    values' = act at bits' (output_bit N) h x.values

    abbrev trails' : List ℕ
    trails' = act at bits' (output_bit N) h x.trails

    few : h ≤ down m
    few = omega arith

    module _ (p : Side) (l : p.0 < k) (q : w.enc k p < m) where
      abbrev v : Side
      v = held w k o p

      v-at : w.enc k v ≡ get_or o (w.enc k p) 0
      v-at = held_at L k m (fits L m some o O) o O p l ∙ entry_in m o O (w.enc k p) q

      v_real : v.0 < size_of m v.1
      v_real = real⁻ w L m v (held_below L k m (fits L m some o O) o O p l) (rw v-at (O.below (w.enc k p) q))

      comes : (xs : List ℕ) → ((i : ℕ) → i < m → N.place i < length xs)
          → get_or (act at bits' (output_bit N) h xs) (at v) 0 ≡ get_or xs (at (v.0, half input p)) 0
      comes xs space =
          turned-at L m N.place U bits' (output_bit N) h few room xs space v.0 v.1 v_real
          ∙ ap (λ s. get_or xs (at (v.0, s)) 0) (out_law L m some o O input count A output output_count finished p l)

      -- which half of the item's pair is which: the half's place is real
      half_real : v.0 < size_of m (half input p)
      half_real = subst (λ s. v.0 < size_of m s) (out_law L m some o O input count A output output_count finished p l)
          (turned_real L m N.place U bits' (output_bit N) h few room v.0 v.1 v_real)

      trail_comes : get_or trails' (at v) 0 ≡ t (w.enc k p) * 2 + digit v.1
      trail_comes = comes x.trails H.trails_room ∙ H.trail_at p l q

      value_comes : get_or values' (at v) 0 ≡ v.0
      value_comes = comes x.values H.values_room ∙ H.value_at v.0 (half input p) half_real

      trails_fit : (i : ℕ) → i < m → N.place i < length trails'
      trails_fit i li = omega (arith, length-act at bits' (output_bit N) x.trails h, H.trails_room i li)

      values_fit : (i : ℕ) → i < m → N.place i < length values'
      values_fit i li = omega (arith, length-act at bits' (output_bit N) x.values h, H.values_room i li)

      real_v : w.enc k v < m
      real_v = real w L m v.1 v.0 v_real

      trail_after : get_or (step6 w N x).trails (at v) 0 ≡ t (w.enc k p)
      unfolding step6
      trail_after =
          each_at N.place _ trails' m U trails_fit (w.enc k v) real_v
          ∙ ap (λ q. q / 2) trail_comes
          ∙ other-digits (t (w.enc k p)) v.1

      value_after : get_or (step6 w N x).values (at v) 0 ≡ w.enc k v
      unfolding step6
      value_after =
          each_at N.place _ values' m U values_fit (w.enc k v) real_v
          ∙ rw (value_comes, trail_comes, last_digit (t (w.enc k p)) v.1, digit_is v.1)

    carried_after : (i : ℕ) → i < m → get_or (step6 w N x).trails (N.place (get_or o i 0)) 0 ≡ t i
    carried_after i li =
        ap (λ j. get_or (step6 w N x).trails (N.place (get_or o j 0)) 0) (sym e)
        ∙ ap (λ j. get_or (step6 w N x).trails (N.place j) 0) (sym (v-at p l q))
        ∙ trail_after p l q
        ∙ ap t e
      where
        p : Side
        p = w.dec k i

        e : w.enc k p ≡ i
        e = L.enc_dec k i (omega arith)

        l : p.0 < k
        l = L.dec< k i (omega arith)

        q : w.enc k p < m
        q = rw e li

    sorted_after : (i : ℕ) → i < m → get_or (step6 w N x).values (N.place i) 0 ≡ i
    unfolding held
    sorted_after i li =
        ap (λ j. get_or (step6 w N x).values (N.place j) 0) (sym e) ∙ value_after p l (q (dec_lt (w.enc k p) m)) ∙ e
      where
        d : (w.dec k i).0 < k
        d = L.dec< k i (omega arith)

        p : Side
        p = seat w k o (w.dec k i)

        l : p.0 < k
        l = seat-below L k m (fits L m some o O) o O (w.dec k i) d

        e : w.enc k (held w k o p) ≡ i
        e = ap (w.enc k) (seat_holds L k m (fits L m some o O) o O (w.dec k i) d) ∙ L.enc_dec k i (omega arith)

        q : Dec (w.enc k p < m) → w.enc k p < m
        q (yes a) = a
        q (no a) =
            let itself : held w k o p ≡ p = ap (w.dec k) (entry_past m o O (w.enc k p) (omega arith)) ∙ L.dec_enc k p l in
            rw (sym (ap (w.enc k) itself) ∙ e) li

    -- what step 6 leaves
    pub record Left (y : State) : Type 0 where
      pub framed : Framed N (output_bit N) (down N.size) x y
      pub finishes : Finished w N.size o input (part (output_bit N) (down N.size) y.bits)
      pub sorted : (i : ℕ) → i < N.size → get_or y.values (N.place i) 0 ≡ i
      pub carried : (i : ℕ) → i < N.size → get_or y.trails (N.place (get_or o i 0)) 0 ≡ t i

    pub left : Left (step6 w N x)
    unfolding step6
    left =
        record {
          framed =
              record {
                values_length = length-each N.place _ values' m ∙ length-act at bits' (output_bit N) x.values h;
                trails_length = length-each N.place _ trails' m ∙ length-act at bits' (output_bit N) x.trails h;
                marks_length = refl;
                bits_length = bits_length;
                values_off = λ q d. each_off N.place _ values' m q d ∙ off x.values q d;
                trails_off = λ q d. each_off N.place _ trails' m q d ∙ off x.trails q d;
                bits_off = λ q d. each_off (λ i. output_bit N + i) _ x.bits h q (apart q d);
                unmarked = H.unmarked;
              };
          finishes = finished;
          sorted = sorted_after;
          carried = carried_after;
        }
      where
        off : (xs : List ℕ) (q : ℕ) → Off N q → get_or (act at bits' (output_bit N) h xs) q 0 ≡ get_or xs q 0
        off = turned_off L m N.place U bits' (output_bit N) h few room

        apart : (q : ℕ) → Outside (output_bit N) h q → (i : ℕ) → i < h → q ≢ output_bit N + i
        apart q (inl d) i l = omega arith
        apart q (inr d) i l = omega arith
