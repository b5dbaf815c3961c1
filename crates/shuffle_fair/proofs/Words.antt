-- Which words are taken: the used ones turn by turn, and words that are fit at each turn.
-- Assumes nothing.
use mathlib.Core.Path.{◌≡◌, refl, ap, ◌∙◌}
use mathlib.Core.Bool.{Bool, true, false}
use mathlib.Core.List.{List, [], ◌∷◌, ◌++◌}
use Prim.Native.Nat.{ℕ, zero, suc, ◌-◌, ◌^◌, ◌≤◌, ◌<◌}
use native.Mathlib.Nat.{sub-zero, suc-sub-suc}
use native.Mathlib.Omega.{arith}
use lib.ListN.{length, get_or, take}
use lib.Seq.{length-take-le}
use Rattle.permutation.specs.Permutations.{bit}
use Rattle.shuffle_fair.specs.Words.{fit, enough_with, takes, skips, chosen}
use Rattle.shuffle_fair.specs.Fair.{Turns, over, takes_word, skips_word, UsedWords}
use Rattle.shuffle_fair.proofs.Fair.{low-fit}

-- ---- one word: taken, or skipped

module _ (d word : ℕ) (words : List ℕ) where
  pub chosen-takes : fit (suc d) word ≡ true → chosen (suc d) (word ∷ words) ≡ takes word (chosen d words)
  unfolding chosen
  chosen-takes f = rw (f, chosen)

  pub chosen-skips : fit (suc d) word ≡ false → chosen (suc d) (word ∷ words) ≡ skips (chosen (suc d) words)
  unfolding chosen
  chosen-skips f = rw (f, chosen)

-- ---- the words used, turn by turn

-- any turns are the words that are chosen, whatever stands behind them
pub turns_chosen : {n : ℕ} {used taken : List ℕ} → Turns n used taken → (others : List ℕ)
    → chosen n (used ++ others) ≡ enough_with taken (length used)
unfolding chosen
turns_chosen over others = refl
turns_chosen (takes_word {d} {word} {used} f t) others = chosen-takes d word (used ++ others) f ∙ ap (takes word) (turns_chosen t others)
turns_chosen (skips_word {d} {word} {used} f t) others = chosen-skips d word (used ++ others) f ∙ ap skips (turns_chosen t others)

turns_taken : {n : ℕ} {used taken : List ℕ} → Turns n used taken → length taken ≡ n
turns_taken over = refl
turns_taken (takes_word f t) = ap suc (turns_taken t)
turns_taken (skips_word f t) = turns_taken t

turns_least : {n : ℕ} {used taken : List ℕ} → Turns n used taken → n ≤ length used
turns_least over = omega arith
turns_least (takes_word f t) = omega (arith, turns_least t)
turns_least (skips_word f t) = omega (arith, turns_least t)

used_most : (n : ℕ) (words : List ℕ) → (chosen n words).used ≤ length words
unfolding chosen
used_most zero words = omega arith
used_most (suc d) [] = omega arith
used_most (suc d) (word ∷ words) = go (fit (suc d) word) refl (used_most d words) (used_most (suc d) words)
  where
    go : (b : Bool) → fit (suc d) word ≡ b → (chosen d words).used ≤ length words → (chosen (suc d) words).used ≤ length words
        → (chosen (suc d) (word ∷ words)).used ≤ suc (length words)
    go true t r s = rw (chosen-takes d word words t) (omega arith)
    go false t r s = rw (chosen-skips d word words t) (omega arith)

abbrev TurnByTurn : ℕ → List ℕ → Type 0
TurnByTurn n words = (chosen n words).enough ≡ true → Turns n (take (chosen n words).used words) (chosen n words).taken

enough_turns : (n : ℕ) (words : List ℕ) → TurnByTurn n words
unfolding chosen
enough_turns zero words e = over
enough_turns (suc d) [] e = absurd (omega (arith, ap bit e))
enough_turns (suc d) (word ∷ words) e = go (fit (suc d) word) refl (enough_turns d words) (enough_turns (suc d) words) e
  where
    go : (b : Bool) → fit (suc d) word ≡ b → TurnByTurn d words → TurnByTurn (suc d) words → TurnByTurn (suc d) (word ∷ words)
    go true t r s = rw (chosen-takes d word words t) (λ e. takes_word t (r e))
    go false t r s = rw (chosen-skips d word words t) (λ e. skips_word t (s e))

pub used_words : (n : ℕ) (words : List ℕ) → (chosen n words).enough ≡ true → UsedWords n words
used_words n words e =
    let most = used_most n words in
    let turns = enough_turns n words e in
    let long : length (take (chosen n words).used words) ≡ (chosen n words).used = length-take-le _ words most in
    record {
      one_each = turns_taken turns;
      least = omega (arith, turns_least turns, long);
      most = most;
      turns = turns;
      behind = λ others. turns_chosen turns others ∙ rw (long, ← e);
    }

-- the word for place i was fit with n - i places left
turns_fit : {n : ℕ} {used taken : List ℕ} → Turns n used taken → (i : ℕ) → i < n → fit (n - i) (get_or taken i 0) ≡ true
turns_fit over i l = absurd (omega arith)
turns_fit (takes_word {d} f t) zero l = rw (sub-zero (suc d)) f
turns_fit (takes_word {d} f t) (suc i) l = rw (suc-sub-suc d i) (turns_fit t i (omega arith))
turns_fit (skips_word f t) i l = turns_fit t i l

pub taken_fit : (n : ℕ) (words : List ℕ) → (chosen n words).enough ≡ true → (i : ℕ) → i < n
    → fit (n - i) (get_or (chosen n words).taken i 0) ≡ true
taken_fit n words e = turns_fit (enough_turns n words e)

-- ---- words that are each fit at their turn: they are taken and all used, as 01's rule takes them

pub first-fit : (n : ℕ) (words : List ℕ) → n ≤ length words → ((i : ℕ) → i < n → fit (n - i) (get_or words i 0) ≡ true)
    → chosen n words ≡ enough_with (take n words) n
unfolding chosen
first-fit zero words h f = refl
first-fit (suc d) [] h f = absurd (omega arith)
first-fit (suc d) (word ∷ words) h f =
    let here : fit (suc d) word ≡ true = rw (sub-zero (suc d)) at (f 0 (omega arith)) in
    let rest = first-fit d words (omega arith) (λ i l. rw (suc-sub-suc d i) at (f (suc i) (omega arith))) in
    chosen-takes d word words here ∙ ap (takes word) rest

pub low-words : (n : ℕ) (words : List ℕ) → n ≤ 1024 → n ≤ length words → ((i : ℕ) → i < n → get_or words i 0 < 2 ^ 32 - 1023)
    → chosen n words ≡ enough_with (take n words) n
low-words n words few h low = first-fit n words h (λ i l. low-fit (n - i) (get_or words i 0) (omega arith) (omega arith) (low i l))
