-- What is one to one on the numbers below n, and stays below n, meets them all.
-- Assumes nothing.
use mathlib.Core.Path.{◌≡◌, refl, sym, ap, ◌∙◌}
use mathlib.Core.Logic.{◌≢◌, ◌⊎◌, inl, inr}
use Prim.Native.Nat.{ℕ, zero, suc, ◌<◌}
use native.Mathlib.Omega.{arith}
use native.Mathlib.Decide.{ℕ_discrete}

-- y is f i for an i below n
pub record Met (n : ℕ) (f : ℕ → ℕ) (y : ℕ) : Type 0 where
  pub at : ℕ
  pub at_below : at < n
  pub meets : f at ≡ y

-- f stays below n and is one to one there
pub record OneToOne (n : ℕ) (f : ℕ → ℕ) : Type 0 where
  pub below : (i : ℕ) → i < n → f i < n
  pub unlike : (i j : ℕ) → i < n → j < n → f i ≡ f j → i ≡ j

met_or-not : (n : ℕ) (f : ℕ → ℕ) (y : ℕ) → Met n f y ⊎ ((i : ℕ) → i < n → f i ≢ y)
met_or-not zero f y = inr (λ i l _. absurd (omega arith))
met_or-not (suc n) f y = go (met_or-not n f y) (ℕ_discrete (f n) y)
  where
    go : Met n f y ⊎ ((i : ℕ) → i < n → f i ≢ y) → Dec (f n ≡ y) → Met (suc n) f y ⊎ ((i : ℕ) → i < suc n → f i ≢ y)
    go (inl a) d = inl (record { at = a.at; at_below = omega (arith, a.at_below); meets = a.meets })
    go (inr a) (yes d) = inl (record { at = n; at_below = omega arith; meets = d })
    go (inr a) (no d) = inr (λ i l. elim (ℕ_discrete i n) [ yes e ↦ λ q. d (ap f (sym e) ∙ q) | no e ↦ a i (omega arith) ])

-- f with n sent to y, which f misses
module _ (n : ℕ) (f : ℕ → ℕ) (y : ℕ) (F : OneToOne (suc n) f) (y-below : y < suc n) (missed : (i : ℕ) → i < suc n → f i ≢ y) where
  abbrev pick : {A : Type 0} → Dec A → ℕ → ℕ
  pick (yes _) z = y
  pick (no _) z = z

  abbrev bent : ℕ → ℕ
  bent i = pick (ℕ_discrete (f i) n) (f i)

  bent-at : (i : ℕ) → ((f i ≡ n) × (bent i ≡ y)) ⊎ ((f i ≢ n) × (bent i ≡ f i))
  bent-at i = on (ℕ_discrete (f i) n)
    where
      on : (d : Dec (f i ≡ n)) → ((f i ≡ n) × (pick d (f i) ≡ y)) ⊎ ((f i ≢ n) × (pick d (f i) ≡ f i))
      on (yes e) = inl (e, refl)
      on (no e) = inr (e, refl)

  bent-below : (i : ℕ) → i < suc n → bent i < n
  bent-below i l = on (bent-at i) (ℕ_discrete y n)
    where
      on : ((f i ≡ n) × (bent i ≡ y)) ⊎ ((f i ≢ n) × (bent i ≡ f i)) → Dec (y ≡ n) → bent i < n
      on (inl p) (yes z) = absurd (missed i l (p.0 ∙ sym z))
      on (inl p) (no z) = omega arith
      on (inr p) d = omega (arith, F.below i l)

  bent_unlike : (i j : ℕ) → i < suc n → j < suc n → bent i ≡ bent j → i ≡ j
  bent_unlike i j li lj e = F.unlike i j li lj (on (bent-at i) (bent-at j))
    where
      on : ((f i ≡ n) × (bent i ≡ y)) ⊎ ((f i ≢ n) × (bent i ≡ f i)) → ((f j ≡ n) × (bent j ≡ y)) ⊎ ((f j ≢ n) × (bent j ≡ f j)) → f i ≡ f j
      on (inl p) (inl q) = p.0 ∙ sym q.0
      on (inl p) (inr q) = absurd (missed j lj (sym q.1 ∙ sym e ∙ p.1))
      on (inr p) (inl q) = absurd (missed i li (sym p.1 ∙ e ∙ q.1))
      on (inr p) (inr q) = sym p.1 ∙ e ∙ q.1

  -- n + 1 pigeons in n holes
  crowded : ((g : ℕ → ℕ) → OneToOne n g → (z : ℕ) → z < n → Met n g z) → ⊥
  crowded fewer =
      let m = fewer bent
      (record {
        below = λ i l. bent-below i (omega arith);
        unlike = λ i j li lj. bent_unlike i j (omega arith) (omega arith);
      }) (bent n) (bent-below n (omega arith)) in
      omega (arith, bent_unlike m.at n (omega (arith, m.at_below)) (omega arith) m.meets, m.at_below)

pub met : (n : ℕ) (f : ℕ → ℕ) → OneToOne n f → (y : ℕ) → y < n → Met n f y
met zero f F y l = absurd (omega arith)
met (suc n) f F y l = go (met_or-not (suc n) f y) (λ g. met n g)
  where
    go : Met (suc n) f y ⊎ ((i : ℕ) → i < suc n → f i ≢ y) → ((g : ℕ → ℕ) → OneToOne n g → (z : ℕ) → z < n → Met n g z) → Met (suc n) f y
    go (inl a) fewer = a
    go (inr a) fewer = absurd (crowded n f y F l a fewer)
