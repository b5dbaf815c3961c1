-- `sheet::sheet` meets its contract.
-- Assumes nothing.
use mathlib.Core.Path.{◌≡◌, sym}
use mathlib.Core.List.{List}
use Prim.Native.Nat.{ℕ, ◌≤◌}
use lib.ListN.{length}
use lib.Seq.{length-take-le}
use Rattle.std.specs.Prelude.{Result}
use Rattle.std.specs.Result.{result_unwrap_or}
use Rattle.answers.specs.declared.Refusal.{Refusal}
use Rattle.answers.specs.Answers.{answer_from}
use Rattle.answers.specs.Questions.{first_no}
use Rattle.answers.specs.Outcomes.{outcome}
use Rattle.cmd_read_order.specs.Orders.{order_questions}
use Rattle.cmd_sheet.specs.Calls.{sheet_for, sheet_call}
use Rattle.cmd_arguments.proofs.Streams.{made_within}
use Rattle.sheet.proofs.sheet.Goals as goal

-- the sheet is within the buffer
within : (input out : List ℕ) (given : Result ℕ Refusal) {n : ℕ} {after : List ℕ} → outcome (answer_from given) after ≡ sheet_call input out → n ≡ result_unwrap_or given 0 → n ≤ length after
unfolding sheet_call
within input out given e = made_within (first_no (order_questions input)) (sheet_for input) out given e

pub slice_bounds-made-end : goal.slice_bounds-made-end
slice_bounds-made-end c = within _ _ c.order_sheet-answer.result c.order_sheet-answer.ensures c.unwrap_or-n.ensures

pub slice_bounds-finish-end : goal.slice_bounds-finish-end
slice_bounds-finish-end c = sym (length-take-le _ _ (within _ _ c.order_sheet-answer.result c.order_sheet-answer.ensures c.unwrap_or-n.ensures))
