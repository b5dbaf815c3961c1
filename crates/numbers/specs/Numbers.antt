-- Numbers in groups of seven bits, in one or two bytes (01, 'Sheet'; 'The questions', 8 and 9).
-- Assumes nothing: these are definitions.
use Rattle.std.specs.Prelude.{◌≡◌, Bool, true, false, ◌&&◌, ◌||◌, List, [], ◌∷◌, ℕ, ◌+◌, ◌*◌, ◌/◌, ◌%◌, ltb, leb, length, get_or}
use Rattle.answers.specs.declared.Answer.{Answer}
use Rattle.answers.specs.Answers.{refusal, accepted}
use Rattle.answers.specs.Questions.{Question, ask, Verdict, all_yes, no_at, first_no}

-- ---- writing

-- the bytes of a number below 16,384: its groups of seven bits, the lowest first, the top bit set (128 added) where another
-- byte follows, and no second byte where one is enough
unfoldable pub number_bytes : ℕ → List ℕ
number_bytes v = elim (ltb v 128) [ true ↦ v ∷ [] | false ↦ (v % 128 + 128) ∷ (v / 128) ∷ [] ]

-- ---- reading

abbrev pub byte_at : List ℕ → ℕ → ℕ
byte_at input i = get_or input i 0

-- whether the number that begins at a place ends with its first byte: the top bit is not set
abbrev pub one_byte : List ℕ → ℕ → Bool
one_byte input at = ltb (byte_at input at) 128

-- a second byte in the shortest form: not 0, and its own top bit not set
abbrev pub ends : ℕ → Bool
ends second = leb 1 second && ltb second 128

-- 8 for each byte that the number has, 9 at its first byte
unfoldable pub number_questions : List ℕ → ℕ → List Question
number_questions input at =
    ask 8 (length input) (ltb at (length input))
    ∷ ask 8 (length input) (one_byte input at || ltb (at + 1) (length input))
    ∷ ask 9 at (one_byte input at || ends (byte_at input (at + 1)))
    ∷ []

-- the number, and the place after it
abbrev pub value_at : List ℕ → ℕ → ℕ
value_at input at =
    elim (one_byte input at) [ true ↦ byte_at input at | false ↦ byte_at input at % 128 + byte_at input (at + 1) * 128 ]

abbrev pub place_after : List ℕ → ℕ → ℕ
place_after input at = elim (one_byte input at) [ true ↦ at + 1 | false ↦ at + 2 ]

-- the answer, and the two numbers that stand beside it: each is 0 in a refusal
pub record NumberAnswer : Type 0 where
  pub answer : Answer
  pub value : ℕ
  pub next : ℕ

abbrev pub number_answer : Verdict → ℕ → ℕ → NumberAnswer
number_answer all_yes v p = record { answer = accepted 0; value = v; next = p }
number_answer (no_at q p) v n = record { answer = refusal q p; value = 0; next = 0 }

-- what reading a number at a place comes to
unfoldable pub number_at : List ℕ → ℕ → NumberAnswer
number_at input at = number_answer (first_no (number_questions input at)) (value_at input at) (place_after input at)

-- ---- a form of numbers: the bytes of one, the questions on reading it at a place of an input, what reading it comes to

pub record NumberForm : Type 0 where
  pub bytes : ℕ → List ℕ
  pub questions : List ℕ → ℕ → List Question
  pub read : List ℕ → ℕ → NumberAnswer

-- groups of seven bits, one or two bytes
abbrev pub sevens : NumberForm
sevens = record { bytes = number_bytes; questions = number_questions; read = number_at }

-- what is read where a number of a form is read: every question gets a yes, and these are the number and the place after it
pub record Reads (form : NumberForm) (input : List ℕ) (at v p : ℕ) : Type 0 where
  pub asked : first_no (form.questions input at) ≡ all_yes
  pub value : (form.read input at).value ≡ v
  pub next : (form.read input at).next ≡ p
