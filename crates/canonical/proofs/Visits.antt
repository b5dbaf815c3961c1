-- Sets of places, and one place more.
-- Assumes nothing.
use mathlib.Core.Path.{◌≡◌, refl, sym, ◌∙◌}
use mathlib.Core.Logic.{◌≢◌, ◌⊎◌, inl, inr}
use mathlib.Core.Bool.{Bool, true}
use Rattle.network.specs.Wiring.{Side}
use Rattle.canonical.proofs.Sides.{side_discrete}

choose : {A : Type 0} → Dec A → Bool → Bool
choose (yes a) b = true
choose (no a) b = b

choose_yes : {A : Type 0} (d : Dec A) (b : Bool) → A → choose d b ≡ true
unfolding choose
choose_yes (yes a) b x = refl
choose_yes (no a) b x = absurd (a x)

choose_no : {A : Type 0} (d : Dec A) (b : Bool) → ¬ A → choose d b ≡ b
unfolding choose
choose_no (yes a) b x = absurd (x a)
choose_no (no a) b x = refl

pub add : Side → (Side → Bool) → Side → Bool
add q visited p = choose (side_discrete p q) (visited p)

module _ (q : Side) (visited : Side → Bool) where
  pub add_same : add q visited q ≡ true
  unfolding add
  add_same = choose_yes (side_discrete q q) (visited q) refl

  pub add-other : (p : Side) → p ≢ q → add q visited p ≡ visited p
  unfolding add
  add-other p h = choose_no (side_discrete p q) (visited p) h

  pub add_old : (p : Side) → visited p ≡ true → add q visited p ≡ true
  add_old p h = go (side_discrete p q)
    where
      go : Dec (p ≡ q) → add q visited p ≡ true
      go (yes e) = rw e add_same
      go (no d) = add-other p d ∙ h

  pub added : (p : Side) → add q visited p ≡ true → (p ≡ q) ⊎ (visited p ≡ true)
  added p h = go (side_discrete p q)
    where
      go : Dec (p ≡ q) → (p ≡ q) ⊎ (visited p ≡ true)
      go (yes e) = inl e
      go (no d) = inr (sym (add-other p d) ∙ h)
