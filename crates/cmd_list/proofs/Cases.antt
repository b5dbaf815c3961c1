-- What the program prints: the orders of none to three places, and each refusal, two of them with two faults, by computing the
-- definition.
-- Assumes nothing.
use mathlib.Core.Path.{◌≡◌, refl}
use mathlib.Core.List.{List, [], ◌∷◌, map}
use Prim.Native.Nat.{ℕ}
use Rattle.answers.specs.Questions.{first_bad_from}
use Rattle.counts.specs.Counts.{W, E, by_halves}
use Rattle.network.specs.Network.{network, network_in, switch_count}
use Rattle.network.specs.Move.{switch}
use Rattle.steps.specs.Sweeps.{look, seek, store, each, act}
use Rattle.steps.specs.Steps.{step1, step2, step3, step4, step5, step6}
use Rattle.steps.specs.Sequence.{rounds, input_entries, entries_of, set_entries}
use Rattle.steps.specs.Run.{subnetworks, run_entry, run_entries, run_set}
use Rattle.numbers.specs.Numbers.{number_questions, number_at}
use Rattle.orders_listed.specs.Ranks.{factorial, order_at}
use Rattle.cmd_text.specs.Text.{text, digits, decimal, characters, bits_text, refusal_line}
use Rattle.cmd_list_line.specs.Line.{behind_commas, entries_text}
use Rattle.cmd_list.specs.Listing.{order_line, order_lines, list_questions, orders_text}

-- an input, and the text
pub record Case : Type 0 where
  pub input : List ℕ
  pub prints : List ℕ

abbrev pub given : List ℕ → List ℕ → Case
given input prints = record { input = input; prints = prints }

abbrev pub three : List ℕ
three = text "0,1,2 000\n0,2,1 111\n1,0,2 010\n1,2,0 011\n2,0,1 110\n2,1,0 001\n"

unfoldable pub cases : List Case
cases =
    given (0 ∷ []) (text " -\n")
    ∷ given (1 ∷ []) (text "0 -\n")
    ∷ given (2 ∷ []) (text "0,1 0\n1,0 1\n")
    ∷ given (3 ∷ []) three
    ∷ given [] (text "refused 8 at 0\n")
    ∷ given (131 ∷ []) (text "refused 8 at 1\n")
    ∷ given (131 ∷ 0 ∷ []) (text "refused 9 at 0\n")
    ∷ given (7 ∷ []) (text "refused 17 at 0\n")
    ∷ given (7 ∷ 0 ∷ []) (text "refused 17 at 0\n")
    ∷ given (131 ∷ 128 ∷ 0 ∷ []) (text "refused 9 at 0\n")
    ∷ given (6 ∷ 0 ∷ []) (text "refused 12 at 1\n")
    ∷ []

pub list_prints : map (λ (c : Case). orders_text c.input) cases ≡ map (λ (c : Case). c.prints) cases
unfolding cases first_bad_from W E by_halves network network_in switch_count switch look seek store each act step1 step2 step3 step4 step5 step6 rounds input_entries entries_of set_entries subnetworks run_entry run_entries run_set number_questions number_at factorial order_at digits decimal characters bits_text refusal_line behind_commas entries_text order_line order_lines list_questions orders_text
list_prints = refl
