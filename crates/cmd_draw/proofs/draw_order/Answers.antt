-- `cmd_draw::draw_order` meets its contract.
-- Assumes nothing.
use mathlib.Core.Path.{◌≡◌, sym, ap, ◌∙◌}
use native.Mathlib.Omega.{arith}
use Prim.Native.Nat.{ℕ, ◌/◌, min}
use lib.ListN.{length, take, drop, replicate, length-append, length-take, length-drop, length-replicate}
use lib.Seq.{length-take-le}
use Rattle.cmd_draw.specs.Draw.{draw_from, draw_call}
use Rattle.cmd_draw.proofs.Drawn.{gathered}
use Rattle.cmd_draw.proofs.draw_order.Goals as goal

pub slice_bounds-draw_words-end : goal.slice_bounds-draw_words-end
slice_bounds-draw_words-end c =
    sym (length-take-le _ _ (omega (arith, c.bytes_for.ensures.1, c.min-count.ensures, c.gather.auto, length-append {A = ℕ}, length-take {A = ℕ}, length-drop {A = ℕ}, length-replicate {A = ℕ} 1088 0)))

pub returns : goal.returns
unfolding draw_call
returns c = let a = c.args in
    let count = c.min-count.result / 4 in
    let room : length (take count (replicate 1088 0)) ≡ count =
    length-take-le count (replicate 1088 0) (omega (arith, c.bytes_for.ensures.1, c.min-count.ensures, length-replicate {A = ℕ} 1088 0))
    in
    let is : count ≡ min c.bytes_for.result (length a.bytes.now) / 4 = ap (λ m. m / 4) c.min-count.ensures in
    let words = gathered a.n a.bytes.now c.gather.new.words (drop count (replicate 1088 0)) c.bytes_for.ensures.0 is room c.gather.ensures in
    c.draw_words.ensures ∙ ap (λ ws. draw_from a.n ws a.out.now) words
