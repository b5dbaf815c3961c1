-- `show::show` meets its contract.
-- Assumes nothing.
use mathlib.Core.Path.{◌≡◌, sym}
use mathlib.Core.List.{List}
use Prim.Native.Nat.{ℕ, ◌≤◌}
use lib.ListN.{length}
use lib.Seq.{length-take-le}
use Rattle.std.specs.Prelude.{Result}
use Rattle.std.specs.Result.{result_unwrap_or}
use Rattle.answers.specs.declared.Refusal.{Refusal}
use Rattle.answers.specs.Answers.{answer_from}
use Rattle.answers.specs.Questions.{first_no}
use Rattle.answers.specs.Outcomes.{outcome}
use Rattle.sheets.specs.Calls.{places_in, read_questions, setting_in}
use Rattle.cmd_show.specs.Show.{setting_text, show_call}
use Rattle.cmd_arguments.proofs.Streams.{made_within}
use Rattle.show.proofs.show.Goals as goal

-- the text is within the buffer
within : (sheet out : List ℕ) (given : Result ℕ Refusal) {n : ℕ} {after : List ℕ} → outcome (answer_from given) after ≡ show_call sheet out → n ≡ result_unwrap_or given 0 → n ≤ length after
unfolding show_call
within sheet out given e = made_within (first_no (read_questions sheet 9217)) (setting_text (places_in sheet) (setting_in sheet)) out given e

pub slice_bounds-text-end : goal.slice_bounds-text-end
slice_bounds-text-end c = within _ _ c.show_sheet-answer.result c.show_sheet-answer.ensures c.unwrap_or-n.ensures

pub slice_bounds-finish-end : goal.slice_bounds-finish-end
slice_bounds-finish-end c = sym (length-take-le _ _ (within _ _ c.show_sheet-answer.result c.show_sheet-answer.ensures c.unwrap_or-n.ensures))
