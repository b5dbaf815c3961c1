-- What each step does to the bounds of `Tidy`, and a whole network.
-- Assumes nothing.
use mathlib.Core.Path.{◌≡◌, refl, subst}
use mathlib.Core.Bool.{Bool, true, false, not, cond}
use mathlib.Core.List.{List}
use Prim.Native.Nat.{ℕ, zero, suc, ◌+◌, ◌-◌, ◌%◌, ◌≤◌, ◌<◌}
use native.Mathlib.Omega.{arith}
use native.Mathlib.Decide.{dec_lt}
use lib.Dec.{ltb, eqb}
use lib.ListN.{get_or}
use borrow.Author.Tests.{lt-ltb, le-ltb}
use Rattle.answers.proofs.Questions.{bad_within}
use Rattle.counts.specs.Counts.{up}
use Rattle.network.specs.Network.{Network}
use Rattle.network.proofs.Shape.{Sized, none, some, count_of}
use Rattle.permutation.specs.Permutations.{IsPermutation}
use Rattle.steps.specs.Sweeps.{look, store, marked, none_marked, lowest_unmarked}
use Rattle.steps.specs.State.{State, Subnetwork, output_bit}
use Rattle.steps.specs.Steps.{other, digit, step1, step2, step3, step4, step5, step6}
use Rattle.steps.specs.Fold.{rounds_of, input_steps, set_net}
use Rattle.steps.proofs.Places.{Unlike, half_unlike}
use Rattle.steps_canonical.specs.Table.{Holding}
use Rattle.steps_canonical.proofs.Level.{half_of, order_in, half-order, top_holding, bottom_holding}
use Rattle.steps_canonical.proofs.Whole.{net-sets}
use Rattle.select.proofs.Numbers.{digit_small}
use Rattle.wirings.specs.declared.Topology.{Topology}
use Rattle.wirings.specs.Nets.{wiring_of}
use Rattle.wirings.proofs.Halves.{lawful}
use Rattle.control_sides.proofs.Bounds.{other-below, first_below}
use Rattle.control_sweeps.proofs.Bounds.{store_below, each_below, pick-below, seek-below}
use Rattle.control_walk.specs.Walks.{lying}
use Rattle.control_network.specs.Inner.{Tidy}

-- equal states are tidy alike
pub tidy_is : {x y : State} → x ≡ y → Tidy x → Tidy y
tidy_is {x} {y} e T = subst (λ (s : State). Tidy s) e T

-- the values of the network's own places are small
abbrev pub Values : Subnetwork → State → Type 0
Values N x = (i : ℕ) → i < N.size → get_or x.values (N.place i) 0 < 32768

-- as those of an order of at most 1,024 places are
pub order_small : (N : Subnetwork) (o : List ℕ) (x : State) → N.size ≤ 1024 → IsPermutation N.size o → Holding N o x → Values N x
order_small N o x h O H i l = rw (H.order i l) (omega (arith, O.below i l))

look_small : (N : Subnetwork) (x : State) (p : ℕ) → Values N x → p < 32768 → look N.place N.size x.values p < 32768
unfolding look
look_small N x p few l = go (dec_lt p N.size)
  where
    go : Dec (p < N.size) → cond (ltb p N.size) (get_or x.values (N.place p) 0) p < 32768
    go (yes h) = rw (lt-ltb p N.size h) (few p h)
    go (no h) = rw (le-ltb p N.size (omega arith)) l

-- ---- the steps

module _ (t : Topology) (N : Subnetwork) (small : N.size ≤ 1024) (x : State) (T : Tidy x) where
  tidy1 : Values N x → Tidy (step1 (wiring_of t) N x)
  unfolding step1
  tidy1 few =
      let k : ℕ = up N.size in
      let start : (wiring_of t).enc k (k - 1, false) < 32768 = first_below t k (k - 1) (omega arith) in
      record {
        bits_below = T.bits_below;
        f_below = pick-below (none_marked x.marks (up N.size)) start T.f_below;
        c_below = pick-below (none_marked x.marks (up N.size)) start T.c_below;
        g_below = look_small N x _ few (pick-below (none_marked x.marks (up N.size)) start T.f_below);
        s_below = T.s_below;
      }

  tidy2 : Tidy (step2 (wiring_of t) N x)
  unfolding step2
  tidy2 =
      record {
        bits_below = T.bits_below;
        f_below = T.f_below;
        c_below = T.c_below;
        g_below = T.g_below;
        s_below =
            seek-below N.place N.size x.values (other (wiring_of t) (up N.size) x.g) small
            (other-below t (up N.size) x.g (omega arith) T.g_below);
      }

  tidy3 : Tidy (step3 (wiring_of t) N x)
  unfolding step3
  tidy3 =
      let k : ℕ = up N.size in
      let p : ℕ = ((wiring_of t).dec k x.s).0 in
      let ms : List ℕ = store (λ i. i) k p 1 x.marks in
      let low : (wiring_of t).enc k (lowest_unmarked ms k, false) < 32768 = first_below t k (lowest_unmarked ms k)
      (omega (arith, bad_within (marked ms) k)) in
      let f : other (wiring_of t) k x.s < 32768 = other-below t k x.s (omega arith) T.s_below in
      let again : Bool = cond (eqb (other (wiring_of t) k x.s) x.c) (ltb (lowest_unmarked ms k) k) false in
      record {
        bits_below =
            store_below 2 (λ i. N.bit + i) (k - 1) p (digit (not ((wiring_of t).dec k x.s).1)) x.bits T.bits_below
            (digit_small (not ((wiring_of t).dec k x.s).1));
        f_below = pick-below again low f;
        c_below = pick-below again low T.c_below;
        g_below = T.g_below;
        s_below = T.s_below;
      }

  tidy4 : Tidy (step4 (wiring_of t) N x)
  unfolding step4
  tidy4 = T

  pub tidy5 : Tidy (step5 (wiring_of t) N x)
  unfolding step5
  tidy5 = T

  pub tidy6 : Tidy (step6 (wiring_of t) N x)
  unfolding step6
  tidy6 =
      record {
        bits_below =
            each_below 2 (λ i. output_bit N + i) (N.size - up N.size)
            (λ i u. get_or x.trails (N.place ((wiring_of t).enc (up N.size) (i, false))) 0 % 2)
            x.bits T.bits_below (λ i u l. half (get_or x.trails (N.place ((wiring_of t).enc (up N.size) (i, false))) 0));
        f_below = T.f_below;
        c_below = T.c_below;
        g_below = T.g_below;
        s_below = T.s_below;
      }
    where
      half : (t : ℕ) → t % 2 < 2
      half t = omega arith

-- no round changes a value
rounds_values : (t : Topology) (N : Subnetwork) (i : ℕ) (x : State) → (rounds_of (wiring_of t) N i x).values ≡ x.values
unfolding rounds_of step1 step2 step3
rounds_values t N zero x = refl
rounds_values t N (suc i) x = rounds_values t N i x

module _ (t : Topology) (N : Subnetwork) (small : N.size ≤ 1024) (x : State) (few : Values N x) (T : Tidy x) where
  pub tidy_rounds : (i : ℕ) → Tidy (rounds_of (wiring_of t) N i x)
  unfolding rounds_of
  tidy_rounds zero = T
  tidy_rounds (suc i) =
      let a : State = rounds_of (wiring_of t) N i x in
      let b : State = step1 (wiring_of t) N a in
      let small-now : Values N a = λ j l. rw (rounds_values t N i x) (few j l) in
      tidy3 t N small (step2 (wiring_of t) N b) (tidy2 t N small b (tidy1 t N small a (tidy_rounds i) small-now))

  pub tidy_input : Tidy (input_steps (wiring_of t) N x)
  unfolding input_steps
  tidy_input = go (ltb 2 N.size)
    where
      go : (b : Bool) → Tidy (cond b (step4 (wiring_of t) N (rounds_of (wiring_of t) N (up N.size) x)) x)
      go true = tidy4 t N small (rounds_of (wiring_of t) N (up N.size) x) (tidy_rounds (up N.size))
      go false = T

-- ---- a whole network

pub tidy_net : (τ : Topology) {m : ℕ} {net : Network} (place : ℕ → ℕ) (bit : ℕ) → Sized m net → Unlike m place → (o : List ℕ) →
    IsPermutation m o
    → (x : State) → Holding (lying place m bit) o x → m ≤ 1024 → Tidy x → Tidy (set_net (wiring_of τ) net place bit x)
unfolding set_net
tidy_net τ place bit (none h) U o O x H s T = T
tidy_net τ {m} place bit (some {top = top} {bottom = bottom} two t b) U o O x H s T =
    let w = wiring_of τ in
    let N : Subnetwork = lying place m bit in
    let A : Subnetwork = half_of w N false in
    let B : Subnetwork = half_of w N true in
    let entered : State = step5 w N (input_steps w N x) in
    let above : State = set_net w top A.place A.bit entered in
    let below : State = set_net w bottom B.place B.bit above in
    let L = lawful τ in
    let T₁ : Tidy entered = tidy5 τ N s (input_steps w N x) (tidy_input τ N s x (order_small N o x s O H) T) in
    let top_set = net-sets L A.place A.bit t (half_unlike w L m place U false)
    (order_in L N U two o O x H false) (half-order L N U two o O x H false) entered (top_holding L N U two o O x H) in
    let T₂ : Tidy above =
    tidy_net τ A.place A.bit t (half_unlike w L m place U false)
    (order_in L N U two o O x H false) (half-order L N U two o O x H false) entered (top_holding L N U two o O x H) (omega arith) T₁ in
    let T₃ : Tidy below =
    tidy_net τ B.place B.bit b (half_unlike w L m place U true)
    (order_in L N U two o O x H true) (half-order L N U two o O x H true) above (bottom_holding L N U two o O x H top above top_set)
    (omega arith) T₂ in
    rw (count_of t) (tidy6 τ N s below T₃)
