-- `draw::draw` meets its contract.
-- Assumes nothing.
use mathlib.Core.Path.{◌≡◌, sym}
use mathlib.Core.List.{List}
use Prim.Native.Nat.{ℕ, ◌≤◌}
use lib.ListN.{length}
use lib.Seq.{length-take-le}
use Rattle.cmd_arguments.proofs.Streams.{made_within}
use Rattle.std.specs.Prelude.{Result}
use Rattle.std.specs.Result.{result_unwrap_or}
use Rattle.answers.specs.declared.Refusal.{Refusal}
use Rattle.answers.specs.Answers.{answer_from}
use Rattle.answers.specs.Questions.{first_no}
use Rattle.answers.specs.Outcomes.{outcome}
use Rattle.shuffle.specs.Shuffled.{order_from}
use Rattle.cmd_draw.specs.Draw.{words_in, order_bytes, draw_questions, draw_from, draw_call}
use Rattle.draw.proofs.draw.Goals as goal

-- the order's bytes are within the buffer
within : (n : ℕ) (bytes out : List ℕ) (given : Result ℕ Refusal) {m : ℕ} {after : List ℕ} → outcome (answer_from given) after ≡ draw_call n bytes out → m ≡ result_unwrap_or given 0 → m ≤ length after
unfolding draw_call draw_from
within n bytes out given e = made_within (first_no (draw_questions n (words_in n bytes))) (order_bytes (order_from n (words_in n bytes))) out given e

pub slice_bounds-order-end : goal.slice_bounds-order-end
slice_bounds-order-end c = within _ _ _ c.draw_order-answer.result c.draw_order-answer.ensures c.unwrap_or-n.ensures

pub slice_bounds-finish-end : goal.slice_bounds-finish-end
slice_bounds-finish-end c = sym (length-take-le _ _ (within _ _ _ c.draw_order-answer.result c.draw_order-answer.ensures c.unwrap_or-n.ensures))
