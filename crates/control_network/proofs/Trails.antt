-- What stands at a network's places before its halves: values and trails come from its own places, and trails stay short.
-- Assumes nothing.
use mathlib.Core.Path.{◌≡◌, sym, subst}
use mathlib.Core.Bool.{Bool, true, false}
use mathlib.Core.List.{List}
use Prim.Native.Nat.{ℕ, ◌+◌, ◌-◌, ◌*◌, ◌/◌, ◌≤◌, ◌<◌}
use native.Mathlib.Nat.{le_trans, le_refl, mul-le-mul, mul_assoc}
use native.Mathlib.Omega.{arith}
use native.Mathlib.Decide.{dec_lt}
use lib.ListN.{length, get_or}
use Rattle.counts.specs.Counts.{up}
use Rattle.network.specs.Wiring.{Side, Lawful}
use Rattle.canonical.specs.Rule.{half}
use Rattle.canonical.proofs.Halves.{feeder}
use Rattle.steps.specs.State.{State, Subnetwork}
use Rattle.steps.specs.Steps.{digit, step5}
use Rattle.steps.specs.Fold.{input_steps}
use Rattle.steps.proofs.Places.{Unlike, size_of, real, real⁻}
use Rattle.steps.proofs.Sweeps.{each_at}
use Rattle.steps_canonical.specs.Table.{Ordered}
use Rattle.steps_canonical.proofs.Rounds.{input_of}
use Rattle.steps_canonical.proofs.Entering.{Turned, turned}
use Rattle.wirings.specs.declared.Net.{Net}
use Rattle.wirings.specs.Nets.{wiring_of, place_of, side_of, Inside}
use Rattle.wirings.proofs.Halves.{lawful, rises}
use Rattle.control_sweeps.specs.Tables.{Within}
use Rattle.control_walk.specs.Walks.{subnetwork_of}
use Rattle.control_network.specs.Inner.{Lengthens}
use Rattle.control_network.proofs.Bounds.{order_small}

-- no two of a network's places are one
pub unlike : (net : Net) → 1 ≤ net.apart → Unlike net.size (place_of net)
unfolding Unlike
unlike net far i j li lj e = go (dec_lt i j) (dec_lt j i)
  where
    go : Dec (i < j) → Dec (j < i) → i ≡ j
    go (yes l) q = absurd (omega (arith, rises net far i j l, e))
    go (no l) (yes k) = absurd (omega (arith, rises net far j i k, e))
    go (no l) (no k) = omega arith

-- the values of an order of at most 1,024 places are small
pub ordered_within : (net : Net) (bit : ℕ) (x : State) → net.size ≤ 1024 → Ordered (subnetwork_of net bit) x
    → Within (place_of net) net.size 32768 x.values
unfolding Within
ordered_within net bit x h S = order_small (subnetwork_of net bit) S.order x h S.permutation S.holding

module _ (net : Net) (far : 1 ≤ net.apart) (bit : ℕ) (two : 2 ≤ net.size) (x : State) (S : Ordered (subnetwork_of net bit) x) where
  abbrev N : Subnetwork
  N = subnetwork_of net bit

  abbrev L : Lawful (wiring_of net.topology)
  L = lawful net.topology

  abbrev m : ℕ
  m = net.size

  abbrev y : State
  y = input_steps (wiring_of net.topology) N x

  abbrev input : List ℕ
  input = input_of N y.bits

  T : Turned L N (unlike net far) two S.order S.permutation x S.holding y
  T = turned L N (unlike net far) two S.order S.permutation x S.holding

  -- what holds of each item of the network's places holds of each after the input steps, which exchange them
  come : (xs ys : List ℕ) → ((i : ℕ) (t : Bool) → i < size_of m t
      → get_or ys (place_of net (side_of net (i, t))) 0 ≡ get_or xs (place_of net (side_of net (feeder input t i))) 0)
      → (P : ℕ → Type 0) → ((q : ℕ) → q < m → P (get_or xs (place_of net q) 0)) → (q : ℕ) → q < m → P (get_or ys (place_of net q) 0)
  come xs ys from P all q l =
      let w = wiring_of net.topology in
      let p : Side = w.dec (up m) q in
      let e : w.enc (up m) p ≡ q = L.enc_dec (up m) q (omega arith) in
      let lies : p.0 < size_of m p.1 = real⁻ w L m p (L.dec< (up m) q (omega arith)) (rw e l) in
      let there = real w L m (half input p) p.0 (T.sides p.0 p.1 lies) in
      subst (λ z. P (get_or ys (place_of net z) 0)) e
      (subst P (sym (from p.0 p.1 lies)) (all (side_of net (feeder input p.1 p.0)) there))

  values_come : (P : ℕ → Type 0) → ((q : ℕ) → q < m → P (get_or x.values (place_of net q) 0)) → (q : ℕ) → q < m → P
      (get_or y.values (place_of net q) 0)
  values_come = come x.values y.values T.value_at

  trails_come : (P : ℕ → Type 0) → ((q : ℕ) → q < m → P (get_or x.trails (place_of net q) 0)) → (q : ℕ) → q < m → P
      (get_or y.trails (place_of net q) 0)
  trails_come = come x.trails y.trails T.trail_at

  -- so both are small before step 5
  pub values_within : m ≤ 1024 → Within (place_of net) m 32768 y.values
  unfolding Within
  values_within h = values_come (λ v. v < 32768) (order_small N S.order x h S.permutation S.holding)

  pub trails_within : Lengthens (place_of net) m x.trails → Within (place_of net) m 32768 y.trails
  unfolding Within Lengthens
  trails_within l i h = small (get_or y.trails (place_of net i) 0) (trails_come (λ t. (t + 1) * (m - 1) ≤ 1023) l i h)
    where
      small : (t : ℕ) → (t + 1) * (m - 1) ≤ 1023 → t < 32768
      small t q = let one : 1 ≤ m - 1 = omega arith in omega (arith, mul-le-mul (le_refl (t + 1)) one)

  -- and after it a trail has the bit more that the halves leave room for
  pub halfway : Inside (length x.trails) net → Lengthens (place_of net) m x.trails → (i : ℕ) → i < m
      → (get_or (step5 (wiring_of net.topology) N y).trails (place_of net i) 0 / 2 + 1) * (m - 1) ≤ 1023
  unfolding step5 Lengthens
  halfway room l i h =
      rw (
        each_at (place_of net) _ y.trails m (unlike net far) (λ j lj. omega (arith, room.lies j lj, T.framed.trails_length)) i h,
        gained (get_or y.trails (place_of net i) 0) _,
      )
      (trails_come (λ t. (t + 1) * (m - 1) ≤ 1023) l i h)
    where
      gained : (t : ℕ) (b : Bool) → (t * 2 + digit b) / 2 ≡ t
      gained t true = omega arith
      gained t false = omega arith

-- a trail of a half of n places: (t + 1) (n - 1) ≤ (t / 2 + 1) (m - 1)
pub half_fits : (m t n : ℕ) → 2 ≤ m → n + n ≤ m + 1 → (t / 2 + 1) * (m - 1) ≤ 1023 → (t + 1) * (n - 1) ≤ 1023
half_fits m t n two h l =
    le_trans (mul-le-mul more (le_refl (n - 1)))
    (rw (mul_assoc (t / 2 + 1) 2 (n - 1)) (le_trans (mul-le-mul (le_refl (t / 2 + 1)) twice) l))
  where
    more : t + 1 ≤ (t / 2 + 1) * 2
    more = omega arith

    twice : 2 * (n - 1) ≤ m - 1
    twice = omega arith
