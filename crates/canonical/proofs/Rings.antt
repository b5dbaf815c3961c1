-- One level of a setting, over any matching of places: `mate p` is the place that holds the associate of p's value. Rings
-- are chains of linked pairs. At most one setting of the level sends mates to different halves and obeys the rule.
-- Assumes nothing.
use mathlib.Core.Path.{◌≡◌, sym, ap, ◌∙◌}
use mathlib.Core.Logic.{◌≢◌}
use mathlib.Core.Bool.{Bool, false, not, Bool-discrete}
use Prim.Native.Nat.{ℕ, zero, suc, ◌≤◌, ◌<◌}
use native.Mathlib.Omega.{arith}
use native.Mathlib.Decide.{dec_lt}
use Rattle.network.specs.Wiring.{Side}
use Rattle.canonical.proofs.Sides.{not_injective, turn, turn_injective, enters}

-- from the pair of a place to the pair of its mate, and so on
pub data Chain (mate : Side → Side) : ℕ → ℕ → Type 0 where
  stay : {i : ℕ} → Chain mate i i
  along : {j : ℕ} (p : Side) → Chain mate (mate p).0 j → Chain mate p.0 j

-- what is asked of a matching on k pairs
pub record Matching (k : ℕ) (mate : Side → Side) : Type 0 where
  pub below : (p : Side) → p.0 < k → (mate p).0 < k
  pub twice : (p : Side) → p.0 < k → mate (mate p) ≡ p
  pub moves : (p : Side) → p.0 < k → mate p ≢ p

module _ (k : ℕ) (mate : Side → Side) where
  -- mates enter different halves
  unfoldable pub Proper : (ℕ → Bool) → Type 0
  Proper b = (p : Side) → p.0 < k → enters b (mate p) ≡ not (enters b p)

  -- the last pair counts as bit 0, and in each ring without it the lowest pair has bit 0
  pub record Ruled (b : ℕ → Bool) : Type 0 where
    pub last_straight : (i : ℕ) → suc i ≡ k → b i ≡ false
    pub lowest_straight :
        (i : ℕ)
        → i < k
        → ((j : ℕ) → j < k → Chain mate i j → i ≤ j)
        → ((j : ℕ) → suc j ≡ k → ¬ (Chain mate i j))
        → b i ≡ false

  -- only the bits of the k pairs matter
  module _ (b e : ℕ → Bool) (same : (i : ℕ) → i < k → b i ≡ e i) where
    pub proper_same : Matching k mate → Proper b → Proper e
    unfolding Proper
    proper_same M B p l =
        ap (λ c. turn c (mate p).1) (sym (same (mate p).0 (M.below p l)))
        ∙ B p l
        ∙ ap (λ c. not (turn c p.1)) (same p.0 l)

    pub ruled_same : Ruled b → Ruled e
    ruled_same R =
        record {
          last_straight = λ i h. sym (same i (omega arith)) ∙ R.last_straight i h;
          lowest_straight = λ i l lowest apart. sym (same i l) ∙ R.lowest_straight i l lowest apart;
        }

  module _ (M : Matching k mate) (b e : ℕ → Bool) (B : Proper b) (E : Proper e) where
    -- two settings that agree at one pair of a ring agree at all
    agree_link : (p : Side) → p.0 < k → b (mate p).0 ≡ e (mate p).0 → b p.0 ≡ e p.0
    unfolding Proper
    agree_link p l h =
        turn_injective (b p.0) (e p.0) p.1
        (not_injective (enters b p) (enters e p) (sym (B p l) ∙ ap (λ c. turn c (mate p).1) h ∙ E p l))

    agree_ring : {i j : ℕ} → Chain mate i j → i < k → b j ≡ e j → b i ≡ e i
    agree_ring stay l h = h
    agree_ring (along p r) l h = agree_link p l (agree_ring r (M.below p l) h)

    module _ (R : Ruled b) (S : Ruled e) where
      unique_below : (n i : ℕ) → i < n → i < k → b i ≡ e i
      unique_below zero i l m = absurd (omega arith)
      unique_below (suc n) i l m = go (λ j. unique_below n j) (Bool-discrete (b i) (e i))
        where
          go : ((j : ℕ) → j < n → j < k → b j ≡ e j) → Dec (b i ≡ e i) → b i ≡ e i
          go ih (yes h) = h
          go ih (no d) = R.lowest_straight i m lowest apart ∙ sym (S.lowest_straight i m lowest apart)
            where
              lowest : (j : ℕ) → j < k → Chain mate i j → i ≤ j
              lowest j lj q = pick (dec_lt j i)
                where
                  pick : Dec (j < i) → i ≤ j
                  pick (yes x) = absurd (d (agree_ring q m (ih j (omega arith) lj)))
                  pick (no x) = omega arith

              apart : (j : ℕ) → suc j ≡ k → ¬ (Chain mate i j)
              apart j h q = d (agree_ring q m (R.last_straight j h ∙ sym (S.last_straight j h)))

      pub unique : (i : ℕ) → i < k → b i ≡ e i
      unique i l = unique_below k i l l
