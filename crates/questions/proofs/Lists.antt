-- What a list of questions comes to, from what each of them gets. That all get a yes exactly when each does: answers,
-- proofs/Questions, `each_yes` and `yes_each`.
-- Assumes nothing.
use mathlib.Core.Path.{◌≡◌}
use mathlib.Core.Bool.{true, false}
use mathlib.Core.List.{List, [], ◌∷◌}
use Prim.Native.Nat.{ℕ, zero, suc}
use Rattle.answers.specs.Questions.{Question, Verdict, all_yes, no_at, first_no}

-- the first i questions of a list get a yes, and the next one a no
abbrev pub NoAfter : ℕ → List Question → Type 0
NoAfter i [] = ⊥
NoAfter zero (q ∷ qs) = q.yes ≡ false
NoAfter (suc i) (q ∷ qs) = (q.yes ≡ true) × NoAfter i qs

-- the verdict that names the question after the first i
abbrev pub no_after : ℕ → List Question → Verdict
no_after i [] = all_yes
no_after zero (q ∷ qs) = no_at q.number q.place
no_after (suc i) (q ∷ qs) = no_after i qs

-- then the list comes to that no
pub first_no_lem : (i : ℕ) (qs : List Question) → NoAfter i qs → first_no qs ≡ no_after i qs
first_no_lem i [] n = absurd n
first_no_lem zero (q ∷ qs) n = rw n
first_no_lem (suc i) (q ∷ qs) n = rw n.0 (first_no_lem i qs n.1)
