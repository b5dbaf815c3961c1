-- What arguments say and which lines are told, by computing the definitions.
-- Assumes nothing.
use mathlib.Core.Path.{◌≡◌, refl}
use mathlib.Core.List.{List, [], ◌∷◌, map}
use Prim.Native.Nat.{ℕ}
use Prim.Native.String.{String}
use Rattle.std.specs.Prelude.{Option, Some, None}
use Rattle.answers.specs.Answers.{refusal, accepted}
use Rattle.cmd_text.specs.Text.{text, digits, decimal, refusal_line}
use Rattle.cmd_arguments.specs.Decimal.{value_on, decimal_in}
use Rattle.cmd_arguments.specs.Streams.{output_of, error_of}

-- an argument, and what it says
pub record Case : Type 0 where
  pub given : String
  pub says : Option ℕ

abbrev pub says : String → Option ℕ → Case
says given is = record { given = given; says = is }

unfoldable pub cases : List Case
cases =
    says "0" (Some 0)
    ∷ says "256" (Some 256)
    ∷ says "00009" (Some 9)
    ∷ says "9999" (Some 9999)
    ∷ says "10000" (Some 10000)
    ∷ says "10001" (Some 10000)
    ∷ says "18446744073709551617" (Some 10000)
    ∷ says "" None
    ∷ says "1/" None
    ∷ says ":1" None
    ∷ says "-1" None
    ∷ says " 1" None
    ∷ says "99999x" None
    ∷ []

pub arguments_say : map (λ (c : Case). decimal_in (text c.given)) cases ≡ map (λ (c : Case). c.says) cases
unfolding cases value_on decimal_in
arguments_say = refl

-- a refusal is a line of standard error, and nothing on standard output; what is accepted is told by its output alone
pub line_3 : error_of (refusal 3 0) ≡ text "refused 3 at 0\n"
unfolding digits decimal refusal_line
line_3 = refl

pub line_12 : error_of (refusal 12 1321) ≡ text "refused 12 at 1321\n"
unfolding digits decimal refusal_line
line_12 = refl

pub no_line : error_of (accepted 9) ≡ []
no_line = refl

pub all_made : output_of (accepted 9) 5 ≡ 5
all_made = refl

pub nothing-made : output_of (refusal 9 1) 5 ≡ 0
nothing-made = refl
