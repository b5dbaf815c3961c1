-- `cmd_picture_line::put_group` meets its contract.
-- Assumes nothing.
use mathlib.Core.Path.{ap}
use native.Mathlib.Omega.{arith}
use lib.ListN.{length, length-append}
use Rattle.answers.proofs.Putting.{put_none, put_then}
use Rattle.cmd_text.specs.Text.{text}
use Rattle.cmd_text.proofs.Lines.{empty_is, empty_not}
use Rattle.cmd_picture_line.proofs.Grouping.{group_none, group_some}
use Rattle.cmd_picture_line.proofs.put_group.Goals as goal

pub returns-then-is_empty : goal.returns-then-is_empty
returns-then-is_empty c = rw (group_none c.args.columns.now (empty_is c.is_empty.ensures c.if-is_empty.true)) (put_none _ _)

pub put_text-end-requires : goal.put_text-end-requires
put_text-end-requires c =
    let cs = c.args.columns.now in omega (arith, c.requires, ap length (group_some cs (empty_not c.is_empty.ensures c.if-is_empty.false)), length-append cs (text " "))

pub put_text-requires : goal.put_text-requires
put_text-requires c =
    let cs = c.args.columns.now in omega (arith, c.requires, c.put_text-end.ensures.place, c.put_text-end.auto, ap length (group_some cs (empty_not c.is_empty.ensures c.if-is_empty.false)), length-append cs (text " "))

pub returns : goal.returns
returns c =
    let cs = c.args.columns.now in rw (group_some cs (empty_not c.is_empty.ensures c.if-is_empty.false)) (put_then (omega (arith, c.requires, ap length (group_some cs (empty_not c.is_empty.ensures c.if-is_empty.false)), length-append cs (text " "))) c.put_text-end.ensures c.put_text.ensures)
