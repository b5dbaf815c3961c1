-- What is claimed of fair drawing (02, F-5): of all words, and of the words that a draw used.
-- Assumes nothing: these are definitions.
use Rattle.std.specs.Prelude.{◌≡◌, true, false, ◌&&◌, List, [], ◌∷◌, ◌++◌, ℕ, zero, suc, ◌%◌, ◌≤◌, ◌^◌, eqb, length, take}
use Rattle.permutation.specs.Permutations.{how_many}
use Rattle.shuffle_fair.specs.Words.{fit, chosen}

-- of all words, how many are taken with d places left and leave the remainder x
abbrev pub words_leaving : ℕ → ℕ → ℕ
words_leaving d x = how_many (λ word. fit d word && eqb (word % d) x) (2 ^ 32)

-- words used up by the turns of d places, and those of them that are taken: each word is taken where it is fit at its turn and
-- skipped where it is not, and the last of them is taken for the last place
pub data Turns : ℕ → List ℕ → List ℕ → Type 0 where
  over : Turns zero [] []
  takes_word : {d word : ℕ} {used taken : List ℕ} → fit (suc d) word ≡ true → Turns d used taken
      → Turns (suc d) (word ∷ used) (word ∷ taken)
  skips_word : {d word : ℕ} {used taken : List ℕ} → fit (suc d) word ≡ false → Turns (suc d) used taken
      → Turns (suc d) (word ∷ used) taken

-- the words that a draw of n places used, where they were enough
pub record UsedWords (n : ℕ) (words : List ℕ) : Type 0 where
  pub one_each : length (chosen n words).taken ≡ n
  pub least : n ≤ (chosen n words).used
  pub most : (chosen n words).used ≤ length words
  pub turns : Turns n (take (chosen n words).used words) (chosen n words).taken
  -- those behind them change nothing
  pub behind : (others : List ℕ) → chosen n (take (chosen n words).used words ++ others) ≡ chosen n words
