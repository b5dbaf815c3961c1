-- Which of the words are taken for the places of an order (02, F-5: fair drawing).
-- Assumes nothing: these are definitions.
use Rattle.std.specs.Prelude.{Bool, true, false, List, [], ◌∷◌, ℕ, zero, suc, ◌*◌, ◌/◌, ◌^◌, ltb}
use Rattle.answers.specs.Questions.{Question, ask}

-- the largest multiple of d that doesn't exceed 2^32
abbrev pub limit : ℕ → ℕ
limit d = 2 ^ 32 / d * d

-- with d places left a word below the limit is taken; one at or above it is skipped
abbrev pub fit : ℕ → ℕ → Bool
fit d word = ltb word (limit d)

-- the words that are taken, how many that used, skipped ones included, and whether they were enough
pub record Chosen : Type 0 where
  pub taken : List ℕ
  pub used : ℕ
  pub enough : Bool

-- they were enough
abbrev pub enough_with : List ℕ → ℕ → Chosen
enough_with taken used = record { taken = taken; used = used; enough = true }

abbrev pub takes : ℕ → Chosen → Chosen
takes word rest = record { taken = word ∷ rest.taken; used = suc rest.used; enough = rest.enough }

abbrev pub skips : Chosen → Chosen
skips rest = record { taken = rest.taken; used = suc rest.used; enough = rest.enough }

-- one word for each of d places, each the first that is fit behind the one before
unfoldable pub chosen : ℕ → List ℕ → Chosen
chosen zero words = enough_with [] 0
chosen (suc d) [] = record { taken = []; used = 0; enough = false }
chosen (suc d) (word ∷ words) = elim (fit (suc d) word) [ true ↦ takes word (chosen d words) | false ↦ skips (chosen (suc d) words) ]

-- 'Refused: .. 18, when the words run out before the last place is drawn'
abbrev pub words_last : (n : ℕ) (words : List ℕ) → Question
words_last n words = ask 18 0 (chosen n words).enough
