-- What a program writes: the output of an accepted call to standard output, the line of a refused one to standard error.
-- Assumes nothing: these are definitions.
use Rattle.std.specs.Prelude.{true, false, List, [], ℕ, eqb}
use Rattle.answers.specs.declared.Answer.{Answer}
use Rattle.cmd_text.specs.Text.{refusal_line}

-- how many of the bytes that a call has made go to standard output
abbrev pub output_of : Answer → ℕ → ℕ
output_of answer made = elim (eqb answer.number 0) [ true ↦ made | false ↦ 0 ]

-- the text for standard error
abbrev pub error_of : Answer → List ℕ
error_of answer = elim (eqb answer.number 0) [ true ↦ [] | false ↦ refusal_line answer.number answer.place ]
