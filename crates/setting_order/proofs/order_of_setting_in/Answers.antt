-- `setting_order::order_of_setting_in` meets its contract.
-- Assumes nothing.
use mathlib.Core.Path.{sym, ap, ◌∙◌}
use Prim.Native.Nat.{◌*◌}
use native.Mathlib.Omega.{arith}
use lib.ListN.{replicate}
use lib.Seq.{length-take-le}
use Rattle.answers.specs.Buffers.{overlay}
use Rattle.network.specs.Log.{entry_words}
use borrow.Author.Rules.{rules}
use Rattle.setting_order.proofs.Carrying.{array_kept, not_refused, carried_in}
use Rattle.setting_order.proofs.order_of_setting_in.Goals as goal

pub slice_bounds-blocks-end : goal.slice_bounds-blocks-end
slice_bounds-blocks-end c = omega (arith, c.number.auto, c.requires.0)

pub slice_bounds-apply_inverse_in-end : goal.slice_bounds-apply_inverse_in-end
slice_bounds-apply_inverse_in-end c = sym (length-take-le _ _ (omega (arith, c.number.auto, c.requires.0)))

pub slice_bounds-gather-end : goal.slice_bounds-gather-end
slice_bounds-gather-end c = sym (array_kept c.args.n c.number.new.blocks c.requires.0 c.number.auto.blocks
    c.apply_inverse_in.new.blocks c.apply_inverse_in.auto.blocks)

pub gather-requires : goal.gather-requires
gather-requires c = (
  omega (
    arith,
    c.requires.0,
    array_kept c.args.n c.number.new.blocks c.requires.0 c.number.auto.blocks
        c.apply_inverse_in.new.blocks c.apply_inverse_in.auto.blocks,
  ),
  omega (arith, c.requires.0),
)

pub unwrap-requires : goal.unwrap-requires
unwrap-requires c =
    not_refused c.args.n c.number.new.blocks c.requires.0 c.number.auto.blocks c.args.t c.args.bits.now (replicate (entry_words * 9217) 0)
    c.apply_inverse_in.result c.requires.1 c.requires.2 c.requires.3 (search rules) c.apply_inverse_in.ensures

pub returns : goal.returns
returns c = c.gather.ensures
    ∙ ap (overlay c.args.order.now 0)
    (carried_in c.args.n c.number.new.blocks c.requires.0 c.number.auto.blocks c.args.t c.args.bits.now
    (replicate (entry_words * 9217) 0) c.apply_inverse_in.result c.requires.1 c.requires.2 c.requires.3
    (search rules) c.apply_inverse_in.ensures c.number.ensures)
