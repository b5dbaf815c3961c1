-- A permutation shuffled by words (01: draw; 02, F-5: fair drawing).
-- Assumes nothing: these are definitions.
use Rattle.std.specs.Prelude.{Result, Ok, Err, ◌≡◌, true, ◌&&◌, List, [], ◌∷◌, ℕ, zero, suc, ◌+◌, ◌-◌, ◌%◌, ◌^◌, ◌≤◌, eqb, length, get_or}
use Rattle.answers.specs.declared.Answer.{Answer}
use Rattle.answers.specs.declared.Refusal.{Refusal}
use Rattle.answers.specs.Answers.{answer_with}
use Rattle.answers.specs.Questions.{Question, Verdict, first_no}
use Rattle.answers.specs.Outcomes.{answer_of, buffer_of, beside_of}
use Rattle.permutation.specs.Permutations.{how_many, identity, exchanged}
use Rattle.questions.specs.Asked.{places_few, room_for}
use Rattle.shuffle.specs.declared.Drawn.{Drawn}
use Rattle.shuffle_fair.specs.Words.{fit, chosen, words_last}

-- the place with which place i of n is exchanged under a word
abbrev pub partner : ℕ → ℕ → ℕ → ℕ
partner n i word = i + word % (n - i)

-- a list after the exchanges of the first i words
unfoldable pub stepped : ℕ → List ℕ → List ℕ → List ℕ
stepped zero words es = es
stepped (suc i) words es = exchanged (stepped i words es) i (partner (length words) i (get_or words i 0))

-- from n words: start with 0 to n - 1; for i = 0 to n - 1 exchange entries i and i + (word i mod (n - i))
abbrev pub shuffled : List ℕ → List ℕ
shuffled words = stepped (length words) words (identity (length words))

-- the order of n places that words draw: shuffled by those that are taken
abbrev pub order_from : ℕ → List ℕ → List ℕ
order_from n words = shuffled (chosen n words).taken

-- 1, 13; 18 when the words run out before the last place is drawn (16 is withdrawn)
abbrev pub shuffle_asks : (n : ℕ) (words out : List ℕ) → List Question
shuffle_asks n words out = places_few n ∷ room_for n (length out) ∷ words_last n words ∷ []

-- what they ask, in words
pub record Acceptable (n : ℕ) (words out : List ℕ) : Type 0 where
  pub small : n ≤ 1024
  pub room : n ≤ length out
  pub enough : (chosen n words).enough ≡ true

-- the answer, the number of words used that stands beside it (0 in a refusal), and the lent entries as the call leaves them
pub record Shuffled : Type 0 where
  pub answer : Answer
  pub used : ℕ
  pub buffer : List ℕ

abbrev pub used_in : Result Drawn Refusal → ℕ
used_in (Ok d) = d.used
used_in (Err r) = 0

-- what a call gives, with the entries as it leaves them
abbrev pub drawn : Result Drawn Refusal → List ℕ → Shuffled
drawn r out = record { answer = answer_with (λ (d : Drawn). d.count) r; used = used_in r; buffer = out }

abbrev pub shuffled_of : Verdict → ℕ → ℕ → List ℕ → List ℕ → Shuffled
shuffled_of v n used order out = record { answer = answer_of v n; used = beside_of v used; buffer = buffer_of v order out }

unfoldable pub shuffle_call : ℕ → List ℕ → List ℕ → Shuffled
shuffle_call n words out = shuffled_of (first_no (shuffle_asks n words out)) n (chosen n words).used (order_from n words) out

-- of all words, how many are taken for place i of n and exchange it with place j
abbrev pub words_exchanging : ℕ → ℕ → ℕ → ℕ
words_exchanging n i j = how_many (λ word. fit (n - i) word && eqb (partner n i word) j) (2 ^ 32)
