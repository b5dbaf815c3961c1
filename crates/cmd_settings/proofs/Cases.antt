-- What the program prints: case g of 01, no places, one, two, and each refusal, by computing the definition.
-- Assumes nothing.
use mathlib.Core.Path.{◌≡◌, refl}
use mathlib.Core.List.{List, [], ◌∷◌, map}
use Prim.Native.Nat.{ℕ}
use Rattle.answers.specs.Questions.{first_bad_from}
use Rattle.counts.specs.Counts.{W, E, by_halves}
use Rattle.network.specs.Network.{network, network_in, switch_count}
use Rattle.network.specs.Move.{switch}
use Rattle.permutation.specs.Permutations.{how_many, good_entry}
use Rattle.steps.specs.Sweeps.{look, seek, store, each, act}
use Rattle.steps.specs.Steps.{step1, step2, step3, step4, step5, step6}
use Rattle.steps.specs.Sequence.{rounds, input_entries, entries_of, set_entries}
use Rattle.steps.specs.Run.{subnetworks, run_entry, run_entries, run_set}
use Rattle.numbers.specs.Numbers.{number_questions, number_at}
use Rattle.rows.specs.Rows.{numbers_questions, numbers_at, place_past}
use Rattle.cmd_read_order.specs.Orders.{form_questions, order_questions}
use Rattle.cmd_text.specs.Text.{text, digits, decimal, characters, bits_text, refusal_line}
use Rattle.cmd_settings.specs.Settings.{setting_lines, settings_text}

-- an input, and the text
pub record Case : Type 0 where
  pub input : List ℕ
  pub prints : List ℕ

abbrev pub given : List ℕ → List ℕ → Case
given input prints = record { input = input; prints = prints }

unfoldable pub cases : List Case
cases =
    given (9 ∷ 6 ∷ 2 ∷ 3 ∷ 7 ∷ 5 ∷ 1 ∷ 8 ∷ 0 ∷ 4 ∷ []) (text "places 9\nsetting 000100011110101011100\nentries 56\n")
    ∷ given (0 ∷ []) (text "places 0\nsetting -\nentries 0\n")
    ∷ given (1 ∷ 0 ∷ []) (text "places 1\nsetting -\nentries 0\n")
    ∷ given (2 ∷ 1 ∷ 0 ∷ []) (text "places 2\nsetting 1\nentries 2\n")
    ∷ given [] (text "refused 8 at 0\n")
    ∷ given (2 ∷ 0 ∷ []) (text "refused 8 at 2\n")
    ∷ given (1 ∷ 128 ∷ 0 ∷ []) (text "refused 9 at 1\n")
    ∷ given (129 ∷ 8 ∷ []) (text "refused 1 at 0\n")
    ∷ given (2 ∷ 0 ∷ 0 ∷ 7 ∷ []) (text "refused 12 at 3\n")
    ∷ given (2 ∷ 0 ∷ 0 ∷ []) (text "refused 6 at 1\n")
    ∷ []

pub settings_prints : map (λ (c : Case). settings_text c.input) cases ≡ map (λ (c : Case). c.prints) cases
unfolding cases first_bad_from W E by_halves network network_in switch_count switch how_many good_entry look seek store each act step1 step2 step3 step4 step5 step6 rounds input_entries entries_of set_entries subnetworks run_entry run_entries run_set number_questions number_at numbers_questions numbers_at place_past digits decimal characters bits_text refusal_line form_questions order_questions setting_lines settings_text
settings_prints = refl
