-- The wirings are lawful, and where the places of a network's halves lie.
-- Assumes nothing.
use mathlib.Core.Path.{◌≡◌, refl, sym, ap, subst, ◌∙◌, fun_ext}
use mathlib.Core.Bool.{Bool, true, false, cond}
use Prim.Native.Nat.{ℕ, ◌+◌, ◌-◌, ◌*◌, ◌≤◌, ◌<◌}
use native.Mathlib.Nat.{add-mul, add_assoc, mul_assoc, mul-le-mul, mul-le-mul_right, one-mul, le_refl}
use native.Mathlib.Omega.{arith}
use Rattle.counts.specs.Counts.{up}
use Rattle.network.specs.Wiring.{Lawful, Side}
use Rattle.network.specs.Network.{down}
use Rattle.network.proofs.Paper.{paper_lawful}
use Rattle.network.proofs.Neighbour.{neighbour_lawful}
use Rattle.network.proofs.Places.{Lies, lies_top, lies_both, lies_below}
use Rattle.wirings.specs.declared.Topology.{Topology}
use Rattle.wirings.specs.declared.Topology.TheVariants.{Paper, Neighbour}
use Rattle.wirings.specs.declared.Net.{Net}
use Rattle.wirings.specs.Nets.{wiring_of, step_of, gap_of, net_of, place_of, side_of, Inside, Spaced, stepped, IsHalf}

pub lawful : (t : Topology) → Lawful (wiring_of t)
unfolding wiring_of
lawful Paper = paper_lawful
lawful Neighbour = neighbour_lawful

-- a network by its own numbers
pub net_as : (net : Net) (x : ℕ) → net.apart ≡ x → net ≡ net_of net.topology net.start net.size x
net_as net x e = ap (net_of net.topology net.start net.size) e

-- ---- sizes

-- what lies inside n places is no more than n, and no place of it lies further off
module _ {n : ℕ} {net : Net} (I : Inside n net) where
  pub fewer : 1 ≤ net.size → net.size ≤ n
  fewer some =
      let far : (net.size - 1) * 1 ≤ (net.size - 1) * net.apart = mul-le-mul (le_refl (net.size - 1)) I.apart in
      omega (arith, far, I.lies (net.size - 1) (omega arith))

  pub nearer : (i : ℕ) → i < net.size → i * net.apart < n
  nearer i l = omega (arith, I.lies i l)

  pub inside_more : {m : ℕ} → n ≤ m → Inside m net
  inside_more h = record { apart = I.apart; lies = λ i l. omega (arith, I.lies i l) }

-- a later place lies further on
pub rises : (net : Net) → 1 ≤ net.apart → (i j : ℕ) → i < j → place_of net i < place_of net j
rises net far i j l =
    let next : (i + 1) * net.apart ≤ j * net.apart = mul-le-mul_right net.apart (omega arith) in
    omega (arith, next, add-mul i 1 net.apart, one-mul net.apart)

-- ---- the arithmetic of places, for each wiring

spaced_by : (t : Topology) (start m apart : ℕ) → 2 ≤ m → 1 ≤ apart → Spaced (net_of t start m apart) (step_of t apart) (gap_of t (up m) apart)
unfolding wiring_of step_of gap_of
spaced_by Paper start m apart two far =
    let some : 1 ≤ up m = omega arith in
    let near : 1 * 1 ≤ up m * apart = mul-le-mul some far in
    record { lower = λ i. refl; upper = λ i. add-mul (up m) i apart; ahead = far; beside = omega (arith, near) }
spaced_by Neighbour start m apart two far =
    record {
      lower = λ i. omega (arith, mul_assoc i 2 apart);
      upper = λ i. omega (arith, add-mul (i * 2) 1 apart, mul_assoc i 2 apart, one-mul apart);
      ahead = omega (arith, far);
      beside = far;
    }

pub spaced : (net : Net) → 2 ≤ net.size → 1 ≤ net.apart → Spaced net (step_of net.topology net.apart)
    (gap_of net.topology (up net.size) net.apart)
spaced net two far = spaced_by net.topology net.start net.size net.apart two far

pub spaced_as : (net : Net) (step gap : ℕ) → 2 ≤ net.size → 1 ≤ net.apart → step ≡ step_of net.topology net.apart
    → gap ≡ gap_of net.topology (up net.size) net.apart → Spaced net step gap
spaced_as net step gap two far e f = rw (e, f) (spaced net two far)

-- a step is at most twice the distance of two places
step_short : (t : Topology) (apart : ℕ) → step_of t apart ≤ 2 * apart
unfolding step_of
step_short Paper apart = omega arith
step_short Neighbour apart = omega arith

pub step_inside : {n : ℕ} {net : Net} → Inside n net → 2 ≤ net.size → step_of net.topology net.apart < 2 * n
step_inside {n} {net} I two = omega (arith, step_short net.topology net.apart, nearer I 1 (omega arith), one-mul net.apart)

-- a gap leads from a place of the network to another
pub gap_inside : {n : ℕ} {net : Net} → Inside n net → 2 ≤ net.size → gap_of net.topology (up net.size) net.apart < n
gap_inside {n} {net} I two =
    let S = spaced net two I.apart in
    let real : side_of net (0, true) < net.size =
    lies_below (lawful net.topology) net.size (0, true) (lies_both net.size (0, true) (omega arith)) in
    omega (arith, S.upper 0, nearer I (side_of net (0, true)) real)

-- ---- the halves

module _ (net : Net) (step gap : ℕ) (S : Spaced net step gap) where
  -- pair i's places counted in the whole
  pub lower_at : (i : ℕ) → place_of net (side_of net (i, false)) ≡ net.start + i * step
  lower_at i = ap (λ x. net.start + x) (S.lower i)

  pub upper_at : (i : ℕ) → place_of net (side_of net (i, true)) ≡ net.start + gap + i * step
  upper_at i = ap (λ x. net.start + x) (S.upper i) ∙ sym (add_assoc net.start gap (i * step))

  pub sides-stepped : ◌≡◌ {A = Side → ℕ} (λ p. place_of net (side_of net p)) (stepped net.start step gap)
  sides-stepped = fun_ext (λ p. go p.0 p.1)
    where
      go : (i : ℕ) (t : Bool) → place_of net (side_of net (i, t)) ≡ stepped net.start step gap (i, t)
      go i false = lower_at i
      go i true = omega (arith, upper_at i)

  pub is_top : IsHalf net false (net_of net.topology net.start (up net.size) step)
  is_top = record { wiring = refl; size = refl; places = fun_ext (λ i. sym (lower_at i)); apart = S.ahead }

  pub is_bottom : IsHalf net true (net_of net.topology (net.start + gap) (down net.size) step)
  is_bottom = record { wiring = refl; size = refl; places = fun_ext (λ i. sym (upper_at i)); apart = S.ahead }

  -- the bottom's first place, if it has one
  pub bottom_starts : {n : ℕ} → Inside n net → 2 ≤ net.size → net.start + gap < n
  bottom_starts {n} I two =
      let real : side_of net (0, true) < net.size =
      lies_below (lawful net.topology) net.size (0, true) (lies_both net.size (0, true) (omega arith)) in
      omega (arith, upper_at 0, I.lies (side_of net (0, true)) real)

-- a half lies inside what the network lies inside
side_lies : (m : ℕ) (t : Bool) (i : ℕ) → i < cond t (down m) (up m) → Lies m (i, t)
side_lies m true i l = lies_both m (i, true) l
side_lies m false i l = lies_top m i l

module _ {net : Net} {t : Bool} {r : Net} (H : IsHalf net t r) where
  -- its places are real ones of the network
  pub half_real : (i : ℕ) → i < r.size → side_of net (i, t) < net.size
  half_real i l = lies_below (lawful net.topology) net.size (i, t) (side_lies net.size t i (rw (← H.size) l))

  pub half_inside : {n : ℕ} → Inside n net → Inside n r
  half_inside {n} I =
      record {
        apart = H.apart;
        lies = λ i l. subst (λ (place : ℕ → ℕ). place i < n) (sym H.places)
            (I.lies (side_of net (i, t)) (half_real i l));
      }

-- what is said of a half's own value is said of the network's sides, and the other way round
module _ {net : Net} {t : Bool} {r : Net} (H : IsHalf net t r) (F : Topology → ℕ → (ℕ → ℕ) → Type 0) where
  abbrev sides : ℕ → ℕ
  sides = λ i. place_of net (side_of net (i, t))

  abbrev size : ℕ
  size = cond t (down net.size) (up net.size)

  pub of_sides : F r.topology r.size (place_of r) → F net.topology size sides
  of_sides f =
      subst (λ (x : Topology). F x size sides) H.wiring
      (subst (λ x. F r.topology x sides) H.size (subst (F r.topology r.size) H.places f))

  pub of_half : F net.topology size sides → F r.topology r.size (place_of r)
  of_half f =
      subst (F r.topology r.size) (sym H.places)
      (subst (λ x. F r.topology x sides) (sym H.size) (subst (λ (x : Topology). F x size sides) (sym H.wiring) f))
