-- Before the halves: the rounds and step 4 bring each item to the half that the settled input bits send it to (two places
-- need neither), and step 5 leaves the orders of the halves there, with the sides on the trails.
-- Assumes nothing.
use mathlib.Core.Path.{◌≡◌, refl, sym, ap, ◌∙◌, subst}
use mathlib.Core.Bool.{Bool, cond}
use mathlib.Core.List.{List, []}
use Prim.Native.Nat.{ℕ, ◌+◌, ◌-◌, ◌*◌, ◌≤◌, ◌<◌}
use native.Mathlib.Omega.{arith}
use native.Mathlib.Decide.{dec_lt}
use lib.Dec.{ltb}
use lib.ListN.{length, get_or, take, drop}
use borrow.Author.Tests.{lt-ltb, le-ltb}
use Rattle.counts.specs.Counts.{up}
use Rattle.counts.proofs.Rule.{W_more}
use Rattle.network.specs.Wiring.{Wiring, Lawful, Side}
use Rattle.network.specs.Network.{down}
use Rattle.permutation.specs.Permutations.{IsPermutation}
use Rattle.bits.specs.Bits.{Bits}
use Rattle.canonical.specs.Rule.{held, half, Apart, LowestStraight}
use Rattle.canonical.proofs.Halves.{feeder}
use Rattle.canonical.proofs.Held.{entry_in}
use Rattle.canonical.proofs.Setting.{walk_settles}
use Rattle.steps.specs.Sweeps.{act, each}
use Rattle.steps.specs.State.{State, Subnetwork}
use Rattle.steps.specs.Steps.{digit, step4, step5}
use Rattle.steps.specs.Fold.{rounds_of, input_steps}
use Rattle.steps.proofs.Places.{Unlike, size_of, real}
use Rattle.steps.proofs.Sweeps.{length-each, each_at, each_off, length-act}
use Rattle.steps_canonical.proofs.Round.{Ready}
use Rattle.steps_canonical.proofs.Rounds.{Passed, input_of, rounds_keep, input_count, input_are_bits, input-apart, input-lowest}
use Rattle.steps_canonical.proofs.Turns.{turned_real, turned_off, turned-at}
use Rattle.steps_canonical.specs.Table.{Holding}
use Rattle.steps_canonical.proofs.Table.{Off, Framed, framed_same}

-- what the rule asks of input bits alone
pub record Parted (w : Wiring) (m : ℕ) (o input : List ℕ) : Type 0 where
  pub count : length input ≡ up m - 1
  pub bits : Bits input
  pub apart : Apart w (up m) o input
  pub lowest : LowestStraight w (up m) o input

-- two places have one pair, the last: nothing is to be settled
two_parted : {w : Wiring} → Lawful w → (o : List ℕ) → IsPermutation 2 o → Parted w 2 o []
two_parted L o O =
    let S = walk_settles L 2 (omega arith) o O in
    record { count = refl; bits = S.input_are_bits; apart = S.apart; lowest = S.lowest_straight }

module _ {w : Wiring} (L : Lawful w) (N : Subnetwork) (U : Unlike N.size N.place) (two : 2 ≤ N.size) (o : List ℕ)
    (O : IsPermutation N.size o) (x : State) (H : Holding N o x) where
  abbrev m : ℕ
  m = N.size

  abbrev k : ℕ
  k = up N.size

  abbrev at : Side → ℕ
  at p = N.place (w.enc (up N.size) p)

  -- the items stand at the half that the input bits send them to
  pub record Turned (y : State) : Type 0 where
    pub parted : Parted w N.size o (input_of N y.bits)
    pub framed : Framed N N.bit (up N.size - 1) x y
    pub sides : (i : ℕ) (t : Bool) → i < size_of N.size t → i < size_of N.size (half (input_of N y.bits) (i, t))
    pub value_at : (i : ℕ) (t : Bool) → i < size_of N.size t
        → get_or y.values (at (i, t)) 0 ≡ get_or x.values (at (feeder (input_of N y.bits) t i)) 0
    pub trail_at : (i : ℕ) (t : Bool) → i < size_of N.size t
        → get_or y.trails (at (i, t)) 0 ≡ get_or x.trails (at (feeder (input_of N y.bits) t i)) 0

  -- the trail that stood at a place, with the side of its value
  abbrev pub gained : Side → ℕ
  gained p = get_or x.trails (N.place (w.enc (up N.size) p)) 0 * 2 + digit (held w (up N.size) o p).1

  some : 0 < N.size
  some = omega arith

  bits_fit : N.bit + (k - 1) ≤ length x.bits
  bits_fit = omega (arith, H.bits_room, W_more N.size two)

  ready : Ready L N some o O x
  ready = record { holds = H.order; marks_room = H.marks_room; bits_room = bits_fit }

  -- two places: as it is
  no_input : N.size ≡ 2 → input_of N x.bits ≡ []
  no_input e = ap (λ n. take (up n - 1) (drop N.bit x.bits)) e

  small : N.size ≡ 2 → Turned x
  unfolding half
  small e =
      record {
        parted = rw (no_input e) (subst (λ n. IsPermutation n o → Parted w n o []) (sym e) (two_parted L o) O);
        framed = framed_same N N.bit (k - 1) x H.unmarked;
        sides = λ i t l. rw (no_input e) l;
        value_at = λ i t l. rw (no_input e);
        trail_at = λ i t l. rw (no_input e);
      }

  abbrev after : State
  after = rounds_of w N k x

  P : Passed L N some o O x after
  P = rounds_keep L N some o O x ready (λ j _. H.unmarked j)

  few : k - 1 ≤ down m
  few = omega arith

  after_room : N.bit + (k - 1) ≤ length after.bits
  after_room = P.ready.bits_room

  -- step 4 on the values or the trails, which the rounds left as they were
  module _ (xs ys : List ℕ) (same : xs ≡ ys) where
    abbrev acted : List ℕ
    acted = act at after.bits N.bit (k - 1) xs

    acted-length : length acted ≡ length ys
    acted-length = length-act at after.bits N.bit xs (k - 1) ∙ ap length same

    acted_off : (z : ℕ) → Off N z → get_or acted z 0 ≡ get_or ys z 0
    acted_off z d =
        turned_off L m N.place U after.bits N.bit (k - 1) few after_room xs z d ∙ ap (λ (l : List ℕ). get_or l z 0) same

    acted-at : ((i : ℕ) → i < m → N.place i < length ys) → (i : ℕ) (t : Bool) → i < size_of m t
        → get_or acted (at (i, t)) 0 ≡ get_or ys (at (feeder (input_of N after.bits) t i)) 0
    acted-at space i t l =
        turned-at L m N.place U after.bits N.bit (k - 1) few after_room xs (λ q lq. rw same (space q lq)) i t l
        ∙ ap (λ (zs : List ℕ). get_or zs (at (feeder (input_of N after.bits) t i)) 0) same

  abbrev cleared : List ℕ
  cleared = each (λ i. i) k (λ i mark. 0) after.marks

  clear : (i : ℕ) → get_or cleared i 0 ≡ 0
  unfolding Unlike
  clear i = go (dec_lt i k)
    where
      room : (j : ℕ) → j < k → j < length after.marks
      room j l = omega (arith, P.ready.marks_room)

      go : Dec (i < k) → get_or cleared i 0 ≡ 0
      go (yes l) = each_at (λ i. i) (λ i mark. 0) after.marks k (λ i j _ _ e. e) room i l
      go (no l) =
          each_off (λ i. i) (λ i mark. 0) after.marks k i (λ j lj e. omega arith)
          ∙ P.marks_off i (omega arith)
          ∙ H.unmarked i

  large : Turned (step4 w N after)
  unfolding step4
  large =
      record {
        parted =
            record {
              count = input_count L N some o O x ready (λ j _. H.unmarked j);
              bits = input_are_bits L N some o O x ready (λ j _. H.unmarked j);
              apart = input-apart L N some o O x ready (λ j _. H.unmarked j) two;
              lowest = input-lowest L N some o O x ready (λ j _. H.unmarked j) two;
            };
        framed =
            record {
              values_length = acted-length after.values x.values P.values_same;
              trails_length = acted-length after.trails x.trails P.trails_same;
              marks_length = length-each (λ i. i) (λ i mark. 0) after.marks k ∙ P.marks_length;
              bits_length = P.bits_length;
              values_off = acted_off after.values x.values P.values_same;
              trails_off = acted_off after.trails x.trails P.trails_same;
              bits_off = P.bits_off;
              unmarked = clear;
            };
        sides = turned_real L m N.place U after.bits N.bit (k - 1) few after_room;
        value_at = acted-at after.values x.values P.values_same H.values_room;
        trail_at = acted-at after.trails x.trails P.trails_same H.trails_room;
      }

  pub turned : Turned (input_steps w N x)
  unfolding input_steps
  turned = go (dec_lt 2 N.size)
    where
      go : Dec (2 < N.size) → Turned (cond (ltb 2 N.size) (step4 w N after) x)
      go (yes h) = rw (lt-ltb 2 N.size h) large
      go (no h) = rw (le-ltb 2 N.size (omega arith)) (small (omega arith))

  -- step 5: the orders of the halves, and the sides on the trails
  abbrev y : State
  y = input_steps w N x

  abbrev z : State
  z = step5 w N (input_steps w N x)

  abbrev input : List ℕ
  input = input_of N y.bits

  T : Turned y
  T = turned

  -- the value that stands at a side
  standing : (i : ℕ) (t : Bool) → i < size_of m t → w.dec k (get_or y.values (at (i, t)) 0) ≡ held w k o (feeder input t i)
  unfolding held
  standing i t l =
      let q : ℕ = w.enc k (feeder input t i) in
      let q< : q < m = real w L m (half input (i, t)) i (T.sides i t l) in
      ap (w.dec k) (T.value_at i t l ∙ H.order q q< ∙ sym (entry_in m o O q q<))

  values_fit : (i : ℕ) → i < m → N.place i < length y.values
  values_fit i l = rw T.framed.values_length (H.values_room i l)

  trails_fit : (i : ℕ) → i < m → N.place i < length y.trails
  trails_fit i l = rw T.framed.trails_length (H.trails_room i l)

  pub record Entered (z : State) : Type 0 where
    pub parted : Parted w N.size o (input_of N z.bits)
    pub framed : Framed N N.bit (up N.size - 1) x z
    pub value_at : (i : ℕ) (t : Bool) → i < size_of N.size t
        → get_or z.values (at (i, t)) 0 ≡ (held w (up N.size) o (feeder (input_of N z.bits) t i)).0
    pub trail_at : (i : ℕ) (t : Bool) → i < size_of N.size t
        → get_or z.trails (at (i, t)) 0 ≡ gained (feeder (input_of N z.bits) t i)

  pub entered : Entered (step5 w N (input_steps w N x))
  unfolding step5
  entered =
      record {
        parted = T.parted;
        framed =
            record {
              values_length = length-each N.place _ y.values m ∙ T.framed.values_length;
              trails_length = length-each N.place _ y.trails m ∙ T.framed.trails_length;
              marks_length = T.framed.marks_length;
              bits_length = T.framed.bits_length;
              values_off = λ q d. each_off N.place _ y.values m q d ∙ T.framed.values_off q d;
              trails_off = λ q d. each_off N.place _ y.trails m q d ∙ T.framed.trails_off q d;
              bits_off = T.framed.bits_off;
              unmarked = T.framed.unmarked;
            };
        value_at = λ i t l. each_at N.place _ y.values m U values_fit (w.enc k (i, t)) (real w L m t i l)
            ∙ ap (λ (v : Side). v.0) (standing i t l);
        trail_at = λ i t l. each_at N.place _ y.trails m U trails_fit (w.enc k (i, t)) (real w L m t i l)
            ∙ rw (T.trail_at i t l, standing i t l);
      }
