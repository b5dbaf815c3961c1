-- What a list of questions comes to that is put together of parts, from what each part comes to.
-- Assumes nothing.
use mathlib.Core.Path.{◌≡◌, refl, ◌∙◌}
use mathlib.Core.List.{List, [], ◌∷◌, ◌++◌}
use Prim.Native.Nat.{ℕ, zero, suc}
use Rattle.answers.specs.Questions.{Question, all_yes, no_at, first_no}
use Rattle.answers.proofs.Questions.{asked-both, asked-first, both_pass}

-- the parts one after the other
abbrev pub joined : List (List Question) → List Question
joined [] = []
joined (qs ∷ parts) = qs ++ joined parts

-- the first i parts pass, and the next one comes to a no
abbrev pub NoInPart : ℕ → List (List Question) → ℕ → ℕ → Type 0
NoInPart i [] q p = ⊥
NoInPart zero (qs ∷ parts) q p = first_no qs ≡ no_at q p
NoInPart (suc i) (qs ∷ parts) q p = (first_no qs ≡ all_yes) × NoInPart i parts q p

-- every part passes
abbrev pub EachPasses : List (List Question) → Type 0
EachPasses [] = Unit {0}
EachPasses (qs ∷ parts) = (first_no qs ≡ all_yes) × EachPasses parts

pub part_no : (i : ℕ) (parts : List (List Question)) {q p : ℕ} → NoInPart i parts q p → first_no (joined parts) ≡ no_at q p
part_no i [] n = absurd n
part_no zero (qs ∷ parts) n = asked-first qs (joined parts) n
part_no (suc i) (qs ∷ parts) n = asked-both qs (joined parts) n.0 ∙ part_no i parts n.1

pub parts_pass : (parts : List (List Question)) → EachPasses parts → first_no (joined parts) ≡ all_yes
parts_pass [] y = refl
parts_pass (qs ∷ parts) y = asked-both qs (joined parts) y.0 ∙ parts_pass parts y.1

pub each_passes : (parts : List (List Question)) → first_no (joined parts) ≡ all_yes → EachPasses parts
each_passes [] e = tt
each_passes (qs ∷ parts) e = let both = both_pass qs (joined parts) e in (both.first, each_passes parts both.second)
