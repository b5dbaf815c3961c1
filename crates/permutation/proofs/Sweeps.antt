-- Sweeps over indices: counting, and the first bad one.
-- Assumes nothing.
use mathlib.Core.Path.{◌≡◌, refl, sym, ap, ◌∙◌}
use mathlib.Core.Bool.{Bool, true, false, ◌&&◌, and-false}
use Prim.Native.Nat.{ℕ, zero, suc, ◌+◌, ◌≤◌, ◌<◌}
use native.Mathlib.Numerals.{add-one}
use native.Mathlib.Omega.{arith}
use native.Mathlib.Decide.{dec_lt, ℕ_discrete}
use lib.Dec.{eqb}
use borrow.Author.Tests.{eq-eqb, ne_eqb}
use Rattle.answers.specs.Questions.{first_bad, first_bad_from}
use Rattle.answers.proofs.Questions.{bad_within, bad_counts, bad_stops, bad_stays, none_bad}
use Rattle.permutation.specs.Permutations.{bit, how_many}

pub bit_small : (b : Bool) → bit b ≤ 1
bit_small true = omega arith
bit_small false = omega arith

module _ (test : ℕ → Bool) where
  pub none_counted : 0 ≡ how_many test 0
  unfolding how_many
  none_counted = refl

  -- one index more, as a loop counts it
  pub one-counted : (n : ℕ) {c : ℕ} → c ≡ how_many test n → c + bit (test n) ≡ how_many test (n + 1)
  unfolding how_many
  one-counted n e = rw (e, add-one)

  pub counted_within : (n : ℕ) → how_many test n ≤ n
  unfolding how_many
  counted_within zero = omega arith
  counted_within (suc n) = omega (arith, counted_within n, bit_small (test n))

  -- a count of 0: no index passes; and the other way round
  pub none_passes : (n : ℕ) → how_many test n ≡ 0 → (i : ℕ) → i < n → test i ≡ false
  unfolding how_many
  none_passes zero e i l = absurd (omega arith)
  none_passes (suc n) e i l = go (none_passes n (omega arith)) (test n) refl (ℕ_discrete i n)
    where
      go : ((i : ℕ) → i < n → test i ≡ false) → (b : Bool) → test n ≡ b → Dec (i ≡ n) → test i ≡ false
      go r false t (yes x) = ap test x ∙ t
      go r true t (yes x) = absurd (omega (arith, e, ap bit t))
      go r b t (no x) = r i (omega arith)

  pub all_fail : (n : ℕ) → ((i : ℕ) → i < n → test i ≡ false) → how_many test n ≡ 0
  unfolding how_many
  all_fail zero h = refl
  all_fail (suc n) h = rw (h n (omega arith), all_fail n (λ i l. h i (omega arith)))

  pub all_pass : (n : ℕ) → ((i : ℕ) → i < n → test i ≡ true) → how_many test n ≡ n
  unfolding how_many
  all_pass zero h = refl
  all_pass (suc n) h = rw (h n (omega arith), all_pass n (λ i l. h i (omega arith))) (omega arith)

pub same_count : (f g : ℕ → Bool) (n : ℕ) → ((i : ℕ) → i < n → f i ≡ g i) → how_many f n ≡ how_many g n
unfolding how_many
same_count f g zero h = refl
same_count f g (suc n) h = rw (same_count f g n (λ i l. h i (omega arith)), h n (omega arith))

-- one index more of a sweep for the first bad one: it counts where it is good and all before are
pub one-swept : (good : ℕ → Bool) (i : ℕ) → first_bad good i + bit (good i && eqb (first_bad good i) i) ≡ first_bad good (i + 1)
one-swept good i = go (good i) refl (dec_lt (first_bad good i) i)
  where
    go : (b : Bool) → good i ≡ b → Dec (first_bad good i < i) → first_bad good i + bit (good i && eqb (first_bad good i) i) ≡ first_bad good (i + 1)
    go b t (yes l) =
        let n : eqb (first_bad good i) i ≡ false = ne_eqb (first_bad good i) i (λ e. omega arith) in
        rw (n, and-false (good i), bad_stays good i l) (omega arith)
    go true t (no l) =
        let e : first_bad good i ≡ i = omega (arith, bad_within good i) in
        rw (t, eq-eqb _ _ e, bad_counts good i e t) (omega arith)
    go false t (no l) =
        let e : first_bad good i ≡ i = omega (arith, bad_within good i) in
        rw (t, bad_stops good i e t) (omega arith)

-- what a test asks of each index, and of the indices alone
pub same_bad : (f g : ℕ → Bool) (n : ℕ) → ((i : ℕ) → i < n → f i ≡ g i) → first_bad f n ≡ first_bad g n
same_bad f g zero h = let a : (k : ℕ → Bool) → first_bad k 0 ≡ 0 = λ k. none_bad k 0 (λ i l. absurd (omega arith)) in a f ∙ sym (a g)
same_bad f g (suc n) h =
    let r : first_bad f n ≡ first_bad g n = same_bad f g n (λ i l. h i (omega arith)) in
    rw (← add-one n, ← one-swept f n, ← one-swept g n, r, h n (omega arith))

-- a loop that sweeps the indices below n for the first bad one, at index i
pub record Sweeping (good : ℕ → Bool) (n low i : ℕ) : Type 0 where
  pub within : i ≤ n
  pub low_within : low ≤ i
  pub found : low ≡ first_bad good i

module _ (good : ℕ → Bool) (n : ℕ) where
  pub sweeping_from : (i : ℕ) {low : ℕ} → i ≤ n → low ≡ first_bad good i → Sweeping good n low i
  sweeping_from i h e = record { within = h; low_within = omega (arith, bad_within good i); found = e }

  pub sweeping_starts : Sweeping good n 0 0
  unfolding first_bad_from
  sweeping_starts = sweeping_from 0 (omega arith) refl

  pub sweeping_more : {low i r : ℕ} {b : Bool} → i < n → b ≡ good i → r ≡ low + bit (b && eqb low i) → Sweeping good n low i → Sweeping good n r (i + 1)
  sweeping_more {i = i} h g e S = sweeping_from (i + 1) (omega arith) (e ∙ rw (g, S.found) (one-swept good i))

  pub sweeping_ends : {low i : ℕ} → n ≤ i → Sweeping good n low i → low ≡ first_bad good n
  sweeping_ends {i = i} h S = let e : i ≡ n = omega (arith, S.within) in S.found ∙ ap (first_bad good) e
