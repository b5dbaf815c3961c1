-- `cmd_draw::draw_words` meets its contract.
-- Assumes nothing.
use mathlib.Core.Path.{◌≡◌, sym}
use native.Mathlib.Omega.{arith}
use lib.ListN.{length-take}
use lib.Seq.{length-take-le}
use Rattle.std.proofs.lemmas.Result.{err_from_is_err_and}
use Rattle.cmd_draw.proofs.Drawn.{draw_refused, count_is, few, entries_few, draw_done}
use Rattle.cmd_draw.proofs.draw_words.Goals as goal

pub returns-in_err-drawn : goal.returns-in_err-drawn
returns-in_err-drawn c = let p = err_from_is_err_and c.from_residual.result c.from_residual.ensures.1 in
    rw (p.1, p.2) (draw_refused _ _ _ c.in_err-drawn.ensures _)

pub slice_bounds-order-end : goal.slice_bounds-order-end
slice_bounds-order-end c = let came = c.in_ok-drawn.ensures in
    omega (arith, count_is _ _ came, few _ _ came, c.shuffle.auto)

pub slice_bounds-put_order-end : goal.slice_bounds-put_order-end
slice_bounds-put_order-end c = let came = c.in_ok-drawn.ensures in
    sym (length-take-le _ _ (omega (arith, count_is _ _ came, few _ _ came, c.shuffle.auto)))

pub put_order-requires : goal.put_order-requires
put_order-requires c = let came = c.in_ok-drawn.ensures in
    let whole : c.in_ok-drawn.drawn.count ≡ c.args.n = count_is _ _ came in
    (omega (arith, length-take c.in_ok-drawn.drawn.count c.shuffle.new.out, whole, few _ _ came), λ i. rw whole (entries_few _ _ came i))

pub returns : goal.returns
returns c = let came = c.in_ok-drawn.ensures in
    let whole : c.in_ok-drawn.drawn.count ≡ c.args.n = count_is _ _ came in
    draw_done _ _ came _ (rw whole at c.put_order.ensures)
