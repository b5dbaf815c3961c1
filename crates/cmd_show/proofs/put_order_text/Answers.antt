-- `cmd_show::put_order_text` meets its contract.
-- Assumes nothing.
use mathlib.Core.Path.{refl}
use native.Mathlib.Omega.{arith}
use borrow.Author.Rules.{rules}
use Rattle.cmd_text.proofs.Lines.{empty_is, empty_not}
use Rattle.cmd_show.proofs.Spacing.{no_order, spacing_starts, spacing_more, spacing_ends}
use Rattle.cmd_show.proofs.put_order_text.Goals as goal

pub returns-then-is_empty : goal.returns-then-is_empty
returns-then-is_empty c = (rw (no_order c.args.order.now (empty_is c.is_empty.ensures c.if-is_empty.true)) c.put_text.ensures, omega (arith, c.put_text.ensures.place))

pub loop-entry-init : goal.loop-entry-init
loop-entry-init c = spacing_starts _ _ _

pub put_entry-end-requires : goal.put_entry-end-requires
put_entry-end-requires c = omega (arith, c.requires, c.loop-entry.invariant.room, c.loop-entry.invariant.same, c.loop-entry-test.true)

pub loop-entry-preserved : goal.loop-entry-preserved
loop-entry-preserved c = spacing_more _ _ _ c.requires c.loop-entry.invariant c.loop-entry-test.true refl (search rules) c.put_entry-end.ensures

pub shape_of-out : goal.shape_of-out
shape_of-out c = c.loop-entry.invariant.same

pub returns : goal.returns
returns c =
    (spacing_ends _ _ _ c.requires c.loop-entry.invariant (empty_not c.is_empty.ensures c.if-is_empty.false) c.loop-entry-test.false, omega (arith, c.loop-entry.invariant.room, c.loop-entry.invariant.within))
