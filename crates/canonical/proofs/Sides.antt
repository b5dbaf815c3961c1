-- Places and values named by pair and side: small facts. A side is turned over by a bit, here a Bool.
-- Assumes nothing.
use mathlib.Core.Path.{◌≡◌, refl, sym, ap, ◌∙◌}
use mathlib.Core.Logic.{◌≢◌, ◌⊎◌, inl, inr}
use mathlib.Core.Bool.{Bool, true, false, not, cond, Bool-discrete, not-not, true≢false, false≢true}
use mathlib.Core.List.{List}
use Prim.Native.Nat.{ℕ, ◌≤◌, ◌<◌}
use native.Mathlib.Omega.{arith}
use native.Mathlib.Decide.{dec_lt, ℕ_discrete}
use lib.Dec.{eqb}
use lib.ListN.{length, get_or, get_or-eq_default}
use Rattle.bits.specs.Bits.{Bits}
use Rattle.network.specs.Wiring.{Side}

-- ---- Booleans

-- a Bool is not both
pub clash : {b : Bool} {A : Type 0} → b ≡ true → b ≡ false → A
clash p q = absurd (true≢false (sym p ∙ q))

pub not_injective : (u v : Bool) → not u ≡ not v → u ≡ v
not_injective true true e = refl
not_injective true false e = cc
not_injective false true e = cc
not_injective false false e = refl

pub not_self : (b : Bool) → not b ≢ b
not_self true e = false≢true e
not_self false e = true≢false e

pub unlike_not : (a b : Bool) → a ≢ b → a ≡ not b
unlike_not true true h = absurd (h refl)
unlike_not true false h = refl
unlike_not false true h = refl
unlike_not false false h = absurd (h refl)

pub true_or_false : (b : Bool) → (b ≡ true) ⊎ (b ≡ false)
true_or_false true = inl refl
true_or_false false = inr refl

-- ---- a side turned over by a bit

abbrev pub turn : Bool → Bool → Bool
turn c s = cond c (not s) s

pub turn_injective : (c e s : Bool) → turn c s ≡ turn e s → c ≡ e
turn_injective true true s h = refl
turn_injective true false s h = absurd (not_self s h)
turn_injective false true s h = absurd (not_self s (sym h))
turn_injective false false s h = refl

pub turn-not : (c s : Bool) → turn c (not s) ≡ not (turn c s)
turn-not true s = refl
turn-not false s = refl

pub turn-turn : (c s : Bool) → turn c (turn c s) ≡ s
turn-turn true s = not-not s
turn-turn false s = refl

-- the bit that a place of the bottom half wants
pub turn-to_bottom : (s : Bool) → turn (not s) s ≡ true
turn-to_bottom true = refl
turn-to_bottom false = refl

-- ---- bits as numbers

-- bit i of a list is 1
abbrev pub bit_at : List ℕ → ℕ → Bool
bit_at bits i = eqb (get_or bits i 0) 1

-- the bit that is 1 where t is false
-- what stands past the end is 0
pub bits_within : (bits : List ℕ) → ((i : ℕ) → i < length bits → get_or bits i 0 < 2) → Bits bits
unfolding Bits
bits_within bits h i = elim (dec_lt i (length bits)) [
  | yes l ↦ h i l
  | no l ↦ rw (get_or-eq_default bits 0 {n = i} (omega arith)) (omega arith)
]

pub bit_is : (t : Bool) → eqb (cond t 0 1) 1 ≡ not t
bit_is true = refl
bit_is false = refl

pub bit_below : (t : Bool) → cond t 0 1 < 2
bit_below true = omega arith
bit_below false = omega arith

-- past the end of a list stand bits 0
pub bit_at_past : (bits : List ℕ) (i : ℕ) → length bits ≤ i → bit_at bits i ≡ false
bit_at_past bits i h = ap (λ b. eqb b 1) (get_or-eq_default bits 0 {n = i} h)

-- ---- places

-- the other place of the same pair; of a value, its associate
abbrev pub other : Side → Side
other p = (p.0, not p.1)

pub other-other : (p : Side) → other (other p) ≡ p
other-other p = λ i. (p.0, not-not p.1 i)

pub other_unlike : (p : Side) → other p ≢ p
other_unlike p e = not_self p.1 (ap (λ (q : Side). q.1) e)

pub side_discrete : (p q : Side) → Dec (p ≡ q)
side_discrete p q = go (ℕ_discrete p.0 q.0) (Bool-discrete p.1 q.1)
  where
    go : Dec (p.0 ≡ q.0) → Dec (p.1 ≡ q.1) → Dec (p ≡ q)
    go (yes a) (yes b) = yes (λ i. (a i, b i))
    go (yes a) (no b) = no (λ e. b (ap (λ (r : Side). r.1) e))
    go (no a) d = no (λ e. a (ap (λ (r : Side). r.0) e))

pub same_pair : (p q : Side) → p.0 ≡ q.0 → (p ≡ q) ⊎ (p ≡ other q)
same_pair p q e = go (Bool-discrete p.1 q.1)
  where
    go : Dec (p.1 ≡ q.1) → (p ≡ q) ⊎ (p ≡ other q)
    go (yes a) = inl (λ i. (e i, a i))
    go (no a) = inr (λ i. (e i, unlike_not p.1 q.1 a i))

-- ---- the half that the item at a place enters, under bits

abbrev pub enters : (ℕ → Bool) → Side → Bool
enters b p = turn (b p.0) p.1

pub enters-other : (b : ℕ → Bool) (p : Side) → enters b (other p) ≡ not (enters b p)
enters-other b p = turn-not (b p.0) p.1
