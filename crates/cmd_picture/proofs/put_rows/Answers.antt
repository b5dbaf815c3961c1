-- `cmd_picture::put_rows` meets its contract.
-- Assumes nothing.
use native.Mathlib.Omega.{arith}
use Rattle.cmd_picture.proofs.Marks.{rowing_starts, row_room, rowing_more}
use borrow.Author.Rules.{rules}
use Rattle.cmd_picture.proofs.put_rows.Goals as goal

pub loop-place-init : goal.loop-place-init
loop-place-init c = rowing_starts _ _ _ _ _ _

pub put_row-end-requires : goal.put_row-end-requires
put_row-end-requires c =
    (omega (arith, c.args.setting.now.few, c.loop-place-test.true), c.requires.0, row_room _ _ _ _ _ _ c.requires.1 c.loop-place.invariant c.loop-place-test.true)

pub loop-place-preserved : goal.loop-place-preserved
loop-place-preserved c =
    rowing_more _ _ _ _ _ _ c.requires.1 c.loop-place.invariant c.loop-place-test.true (search rules) c.put_row-end.ensures
