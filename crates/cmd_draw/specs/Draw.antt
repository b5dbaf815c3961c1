-- An order drawn from random bytes (01: draw; 02, F-5), as the programs read it: a count and that many entries, as sheet numbers.
-- Assumes nothing: these are definitions.
use Rattle.std.specs.Prelude.{true, false, List, [], ◌∷◌, ℕ, ◌+◌, ◌*◌, ◌/◌, min, leb, length, get_or}
use Rattle.answers.specs.Questions.{Question, first_no}
use Rattle.answers.specs.Outcomes.{Outcome, settled}
use Rattle.permutation.specs.Permutations.{tabulate}
use Rattle.questions.specs.Asked.{places_few}
use Rattle.shuffle_fair.specs.Words.{words_last}
use Rattle.shuffle.specs.Shuffled.{order_from}
use Rattle.numbers.specs.Numbers.{sevens}
use Rattle.rows.specs.Rows.{numbers_bytes}

-- word i: four bytes, the low byte first
abbrev pub word_at : List ℕ → ℕ → ℕ
word_at bytes i =
    get_or bytes (4 * i) 0 + 256 * get_or bytes (4 * i + 1) 0 + 65536 * get_or bytes (4 * i + 2) 0 + 16777216 * get_or bytes (4 * i + 3) 0

-- words beyond one for each place, for those that are skipped
abbrev pub spare : ℕ
spare = 64

-- how many bytes are read for n places: none where n is refused
abbrev pub bytes_for : ℕ → ℕ
bytes_for n = elim (leb n 1024) [ true ↦ 4 * (n + spare) | false ↦ 0 ]

-- the whole words of as many bytes as are read
abbrev pub words_in : ℕ → List ℕ → List ℕ
words_in n bytes = tabulate (word_at bytes) (min (bytes_for n) (length bytes) / 4)

-- the bytes of an order
unfoldable pub order_bytes : List ℕ → List ℕ
order_bytes order = numbers_bytes sevens (length order ∷ order)

-- draw's questions 1 and 18; its 13 gets a yes always, since there is room for every order
unfoldable pub draw_questions : ℕ → List ℕ → List Question
draw_questions n words = places_few n ∷ words_last n words ∷ []

-- the order that words draw over the front of the output, and as count its bytes
unfoldable pub draw_from : ℕ → List ℕ → List ℕ → Outcome
draw_from n words out =
    settled (first_no (draw_questions n words)) (length (order_bytes (order_from n words))) (order_bytes (order_from n words)) out

unfoldable pub draw_call : ℕ → List ℕ → List ℕ → Outcome
draw_call n bytes out = draw_from n (words_in n bytes) out
