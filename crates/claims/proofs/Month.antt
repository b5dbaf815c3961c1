-- The starred month cases, together.
-- Assumes nothing.
use mathlib.Core.Path.{◌≡◌, refl}
use mathlib.Core.List.{map}
use Rattle.answers.specs.Questions.{first_bad_from}
use Rattle.answers.specs.Buffers.{overlay}
use Rattle.counts.specs.Counts.{W, E, by_halves}
use Rattle.network.specs.Network.{network, network_in, switch_count}
use Rattle.network.specs.Move.{switch, layer, layer_back, part, joined, forward, backward}
use Rattle.network.specs.Blocks.{cut, bytes_of, moved, moved_back}
use Rattle.network.specs.Log.{words, layer_entries, switches, apply_entries, inverse_entries}
use Rattle.permutation.specs.Permutations.{how_many, good_entry, tabulate}
use Rattle.steps.specs.Sweeps.{look, seek, store, each, act}
use Rattle.steps.specs.Steps.{step1, step2, step3, step4, step5, step6}
use Rattle.steps.specs.Sequence.{rounds, input_entries, entries_of, set_entries}
use Rattle.steps.specs.Run.{subnetworks, run_entry, run_entries, run_set}
use Rattle.numbers.specs.Numbers.{number_bytes, number_questions, number_at}
use Rattle.rows.specs.Rows.{numbers_bytes, numbers_questions, numbers_at, place_past}
use Rattle.sheets.specs.Sheet.{bits_number, fourteens, sheet}
use Rattle.sheets.specs.Reading.{low_bits, bits_in, all_zero}
use Rattle.sheets.specs.Calls.{write_questions, write_sheet, head_questions, bits_from, body_questions, read_questions, read_sheet, setting_in}
use Rattle.shuffle_fair.specs.Words.{chosen}
use Rattle.shuffle.specs.Shuffled.{stepped, shuffle_call}
use Rattle.apply_questions.specs.Questions.{apply_questions}
use Rattle.wirings.specs.Nets.{wiring_of}
use Rattle.claims.specs.Month.{run_case, expected, cases}

pub month : map run_case cases ≡ map expected cases
unfolding cases map first_bad_from overlay W E by_halves network network_in switch_count switch layer layer_back part joined forward backward cut bytes_of moved moved_back words layer_entries switches apply_entries inverse_entries how_many good_entry tabulate look seek store each act step1 step2 step3 step4 step5 step6 rounds input_entries entries_of set_entries subnetworks run_entry run_entries run_set number_bytes number_questions number_at bits_number fourteens numbers_bytes sheet numbers_questions numbers_at place_past low_bits bits_in all_zero write_questions write_sheet head_questions bits_from body_questions read_questions read_sheet setting_in chosen stepped shuffle_call apply_questions wiring_of
month = refl
