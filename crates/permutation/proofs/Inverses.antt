-- Each value below n stands at exactly one place of a permutation; the places make its inverse.
-- Assumes nothing.
use mathlib.Core.Path.{◌≡◌, refl, sym, ap, ◌∙◌}
use mathlib.Core.Bool.{Bool, true, false, not}
use mathlib.Core.List.{List}
use Prim.Native.Nat.{ℕ, ◌<◌}
use native.Mathlib.Omega.{arith}
use native.Mathlib.Decide.{dec_lt}
use lib.Dec.{eqb}
use lib.ListN.{length, get_or}
use borrow.Author.Tests.{eq-eqb, eqb-true, not-true, not-false}
use Rattle.answers.specs.Questions.{first_bad}
use Rattle.answers.proofs.Questions.{bad_within, all_good, bad-at}
use Rattle.permutation.specs.Permutations.{IsPermutation, StandsOnce, place_of, inverted}
use Rattle.permutation.proofs.Pigeons.{Met, met}
use Rattle.permutation.proofs.Tables.{length-tabulate, tabulate-at}

module _ (n : ℕ) (es : List ℕ) (P : IsPermutation n es) where
  -- every value below n stands somewhere
  pub stands : (v : ℕ) → v < n → Met n (λ i. get_or es i 0) v
  stands v l = met n (λ i. get_or es i 0) (record { below = P.below; unlike = P.unlike }) v l

  pub place-below : (v : ℕ) → v < n → place_of es v < n
  place-below v l = go (dec_lt (place_of es v) n)
    where
      other : ℕ → Bool
      other i = not (eqb (get_or es i 0) v)

      go : Dec (place_of es v < n) → place_of es v < n
      go (yes x) = x
      go (no x) =
          let m = stands v l in
          let whole : first_bad other (length es) ≡ length es = omega (arith, bad_within other (length es), P.whole) in
          let no : not (eqb (get_or es m.at 0) v) ≡ true = all_good other (length es) whole m.at (omega (arith, P.whole, m.at_below)) in
          absurd (let z : ◌≡◌ {A = Bool} true false = sym (eq-eqb _ _ m.meets) ∙ not-true _ no in let y : ◌≡◌ {A = ℕ} 0 1 = cc in omega arith)

  pub place_holds : (v : ℕ) → v < n → get_or es (place_of es v) 0 ≡ v
  place_holds v l =
      eqb-true _ _
      (not-false _ (bad-at (λ i. not (eqb (get_or es i 0) v)) (length es) (omega (arith, P.whole, place-below v l))))

  pub place_only : (v i : ℕ) → v < n → i < n → get_or es i 0 ≡ v → i ≡ place_of es v
  place_only v i l m e = P.unlike i (place_of es v) m (place-below v l) (e ∙ sym (place_holds v l))

  -- ---- the inverse: both ways round, it brings each place back

  pub inverted-at : (v : ℕ) → v < n → get_or (inverted es) v 0 ≡ place_of es v
  inverted-at v l = tabulate-at (place_of es) (length es) v (omega (arith, P.whole))

  pub entry_of_inverted : (v : ℕ) → v < n → get_or es (get_or (inverted es) v 0) 0 ≡ v
  entry_of_inverted v l = rw (inverted-at v l) (place_holds v l)

  pub inverted_of_entry : (i : ℕ) → i < n → get_or (inverted es) (get_or es i 0) 0 ≡ i
  inverted_of_entry i l = inverted-at (get_or es i 0) (P.below i l) ∙ sym (place_only (get_or es i 0) i (P.below i l) l refl)

  pub inverted_permutation : IsPermutation n (inverted es)
  inverted_permutation =
      record {
        whole = length-tabulate (place_of es) (length es) ∙ P.whole;
        below = λ v l. rw (inverted-at v l) (place-below v l);
        unlike = λ v w lv lw e. sym (entry_of_inverted v lv) ∙ ap (λ i. get_or es i 0) e ∙ entry_of_inverted w lw;
      }

pub stands_once : (n : ℕ) (es : List ℕ) → IsPermutation n es → (v : ℕ) → v < n → StandsOnce n es v
stands_once n es P v l =
    record {
      at = place_of es v;
      at_below = place-below n es P v l;
      holds = place_holds n es P v l;
      only = λ i m e. place_only n es P v i l m e;
    }
