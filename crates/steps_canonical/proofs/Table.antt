-- Which part of the setter's table a network's steps leave alone.
-- Assumes nothing.
use mathlib.Core.Path.{◌≡◌, refl, ◌∙◌}
use mathlib.Core.Logic.{◌≢◌, ◌⊎◌, inl, inr}
use Prim.Native.Nat.{ℕ, ◌+◌, ◌≤◌, ◌<◌}
use native.Mathlib.Omega.{arith}
use lib.ListN.{length, get_or}
use Rattle.steps.specs.State.{State, Subnetwork}

-- z is none of the network's places
abbrev pub Off : Subnetwork → ℕ → Type 0
Off N z = (i : ℕ) → i < N.size → z ≢ N.place i

-- q is none of the n bits from b on
abbrev pub Outside : ℕ → ℕ → ℕ → Type 0
Outside b n q = (q < b) ⊎ (b + n ≤ q)

-- values and trails change at the network's places alone, bits among the n from b on alone, and all marks are clear
pub record Framed (N : Subnetwork) (b n : ℕ) (x y : State) : Type 0 where
  pub values_length : length y.values ≡ length x.values
  pub trails_length : length y.trails ≡ length x.trails
  pub marks_length : length y.marks ≡ length x.marks
  pub bits_length : length y.bits ≡ length x.bits
  pub values_off : (z : ℕ) → Off N z → get_or y.values z 0 ≡ get_or x.values z 0
  pub trails_off : (z : ℕ) → Off N z → get_or y.trails z 0 ≡ get_or x.trails z 0
  pub bits_off : (q : ℕ) → Outside b n q → get_or y.bits q 0 ≡ get_or x.bits q 0
  pub unmarked : (i : ℕ) → get_or y.marks i 0 ≡ 0

pub framed_same : (N : Subnetwork) (b n : ℕ) (x : State) → ((i : ℕ) → get_or x.marks i 0 ≡ 0) → Framed N b n x x
framed_same N b n x u =
    record {
      values_length = refl;
      trails_length = refl;
      marks_length = refl;
      bits_length = refl;
      values_off = λ z _. refl;
      trails_off = λ z _. refl;
      bits_off = λ q _. refl;
      unmarked = u;
    }

pub framed_then : {N : Subnetwork} {b n : ℕ} {x y z : State} → Framed N b n x y → Framed N b n y z → Framed N b n x z
framed_then F G =
    record {
      values_length = G.values_length ∙ F.values_length;
      trails_length = G.trails_length ∙ F.trails_length;
      marks_length = G.marks_length ∙ F.marks_length;
      bits_length = G.bits_length ∙ F.bits_length;
      values_off = λ z d. G.values_off z d ∙ F.values_off z d;
      trails_off = λ z d. G.trails_off z d ∙ F.trails_off z d;
      bits_off = λ q d. G.bits_off q d ∙ F.bits_off q d;
      unmarked = G.unmarked;
    }

-- more places, more bits
pub framed_wider : {M : Subnetwork} {a c : ℕ} {x y : State} (N : Subnetwork) (b n : ℕ) → ((z : ℕ) → Off N z → Off M z)
    → ((q : ℕ) → Outside b n q → Outside a c q) → Framed M a c x y → Framed N b n x y
framed_wider N b n f g F =
    record {
      values_length = F.values_length;
      trails_length = F.trails_length;
      marks_length = F.marks_length;
      bits_length = F.bits_length;
      values_off = λ z d. F.values_off z (f z d);
      trails_off = λ z d. F.trails_off z (f z d);
      bits_off = λ q d. F.bits_off q (g q d);
      unmarked = F.unmarked;
    }

-- a smaller range of bits
pub outside_wider : (a c b n q : ℕ) → b ≤ a → a + c ≤ b + n → Outside b n q → Outside a c q
outside_wider a c b n q l h (inl d) = inl (omega arith)
outside_wider a c b n q l h (inr d) = inr (omega arith)
