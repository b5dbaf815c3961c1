-- The setter's theorem, over every lawful wiring: the steps in their sequence set the bits of an order canonically, and so
-- does running the entries of the log.
-- Assumes nothing.
use mathlib.Core.Path.{◌≡◌, refl, sym, ap, ◌∙◌, subst}
use mathlib.Core.Bool.{true, false}
use mathlib.Core.List.{List}
use Prim.Native.Nat.{ℕ, ◌≤◌, ◌<◌}
use native.Mathlib.Omega.{arith}
use lib.ListN.{length, get_or, length-replicate}
use lib.Seq.{take_all}
use Rattle.counts.specs.Counts.{up, W}
use Rattle.counts.proofs.Rule.{W_none}
use Rattle.network.specs.Wiring.{Wiring, Lawful}
use Rattle.network.specs.Network.{Network, wires, network}
use Rattle.network.proofs.Shape.{Sized, none, some, sized, count_of}
use Rattle.permutation.specs.Permutations.{IsPermutation}
use Rattle.permutation.proofs.Tables.{get_d_blank}
use Rattle.canonical.specs.Rule.{Canonical}
use Rattle.steps.specs.State.{State, Subnetwork, start}
use Rattle.steps.specs.Steps.{step5}
use Rattle.steps.specs.Sequence.{set_entries}
use Rattle.steps.specs.Run.{run_set, setting_of}
use Rattle.steps.specs.Fold.{input_steps, set_net}
use Rattle.steps.proofs.Places.{Unlike, half_unlike}
use Rattle.steps.proofs.Running.{run_is_fold}
use Rattle.steps_canonical.proofs.Parts.{part}
use Rattle.steps_canonical.specs.Table.{Begins, Holding}
use Rattle.steps_canonical.proofs.Table.{framed_same}
use Rattle.steps_canonical.proofs.Level.{Sets, half_of, order_in, half-order, top_holding, bottom_holding, level}

abbrev pub at : (ℕ → ℕ) → ℕ → ℕ → Subnetwork
at place m bit = record { place = place; size = m; bit = bit }

-- fewer than two places: there is nothing to do
nothing : (w : Wiring) (N : Subnetwork) (o : List ℕ) (x : State) → N.size < 2 → IsPermutation N.size o → Holding N o x
    → Sets w wires N o x x
unfolding Canonical
nothing w N o x h O H =
    record {
      framed = framed_same N N.bit (W N.size) x H.unmarked;
      sorted = λ i l. H.order i l ∙ home i l;
      carried = λ i l. ap (λ q. get_or x.trails (N.place q) 0) (home i l);
      canonical = ap (λ n. part N.bit n x.bits) (W_none N.size h);
    }
  where
    home : (i : ℕ) → i < N.size → get_or o i 0 ≡ i
    home i l = omega (arith, O.below i l)

module _ {w : Wiring} (L : Lawful w) where
  pub net-sets : {m : ℕ} {net : Network} (place : ℕ → ℕ) (bit : ℕ) → Sized m net → Unlike m place
      → (o : List ℕ) → IsPermutation m o → (x : State) → Holding (at place m bit) o x
      → Sets w net (at place m bit) o x (set_net w net place bit x)
  unfolding set_net
  net-sets {m} place bit (none h) U o O x H = nothing w (at place m bit) o x h O H
  net-sets {m} place bit (some {top = top} {bottom = bottom} two t b) U o O x H =
      let N : Subnetwork = at place m bit in
      let T : Subnetwork = half_of w N false in
      let B : Subnetwork = half_of w N true in
      let entered : State = step5 w N (input_steps w N x) in
      let from_top_lem : State = set_net w top T.place T.bit entered in
      let from-bottom : State = set_net w bottom B.place B.bit from_top_lem in
      let above = net-sets T.place T.bit t (half_unlike w L m place U false)
      (order_in L N U two o O x H false) (half-order L N U two o O x H false)
      entered (top_holding L N U two o O x H) in
      let below = net-sets B.place B.bit b (half_unlike w L m place U true)
      (order_in L N U two o O x H true) (half-order L N U two o O x H true)
      from_top_lem (bottom_holding L N U two o O x H top from_top_lem above) in
      rw (count_of t) (level L N U two o O x H top from_top_lem above bottom from-bottom below)

-- so the table starts
pub start_begins : (n : ℕ) (o : List ℕ) → IsPermutation n o → Begins n o (start o)
start_begins n o O =
    record {
      values_room = omega (arith, O.whole);
      trails_room = omega (arith, length-replicate {A = ℕ} (length o) 0, O.whole);
      marks_room = omega (arith, length-replicate {A = ℕ} (up (length o)) 0, O.whole);
      bits_count = length-replicate (W (length o)) 0 ∙ ap W O.whole;
      values_are = λ i _. refl;
      unmarked = λ i. get_d_blank (up (length o)) i 0;
    }

module _ {w : Wiring} (L : Lawful w) (n : ℕ) (o : List ℕ) (O : IsPermutation n o) where
  module _ (x : State) (B : Begins n o x) where
    pub whole_sets : Sets w (network n) (at (λ i. i) n 0) o x (set_net w (network n) (λ i. i) 0 x)
    unfolding Unlike
    whole_sets =
        net-sets L (λ i. i) 0 (sized n) (λ i j _ _ e. e) o O x
        (record {
          values_room = λ i l. omega (arith, B.values_room);
          trails_room = λ i l. omega (arith, B.trails_room);
          marks_room = B.marks_room;
          bits_room = omega (arith, B.bits_count);
          unmarked = B.unmarked;
          order = B.values_are;
        })

    -- THE SETTER'S THEOREM: the steps in their sequence leave the canonical setting
    pub fold_canonical : Canonical w (network n) o (set_net w (network n) (λ i. i) 0 x).bits
    fold_canonical = subst (Canonical w (network n) o) (take_all (W n) left all) whole_sets.canonical
      where
        left : List ℕ
        left = (set_net w (network n) (λ i. i) 0 x).bits

        all : length left ≤ W n
        all = omega (arith, whole_sets.framed.bits_length, B.bits_count)

  -- the setting that the log of an order leaves is the canonical one
  pub setting_canonical : Canonical w (network n) o (setting_of w o (set_entries w n))
  setting_canonical =
      subst (λ j. Canonical w (network n) o (run_set w j (set_entries w n) (start o)).bits) (sym O.whole)
      (rw (run_is_fold w L n (start o)) (fold_canonical (start o) (start_begins n o O)))
