-- `cmd_list_line::put_entries` meets its contract.
-- Assumes nothing.
use native.Mathlib.Omega.{arith}
use lib.ListN.{get_or, length-append}
use Rattle.answers.proofs.Putting.{put_none}
use Rattle.cmd_text.specs.Text.{decimal}
use Rattle.cmd_text.proofs.Lines.{room_first, put_both}
use Rattle.cmd_list_line.specs.Line.{behind_commas}
use Rattle.cmd_list_line.proofs.Putting.{others, entries_none, entries_some, parting_starts, comma_room, entry_room, parting_more, parting_ends}
use Rattle.cmd_list_line.proofs.put_entries.Goals as goal

pub returns-in_default : goal.returns-in_default
returns-in_default c = rw (entries_none c.args.entries.now (omega arith)) (put_none _ _)

pub put_decimal-end-requires : goal.put_decimal-end-requires
put_decimal-end-requires c = let xs = c.args.entries.now in
    let h = rw (entries_some xs c.in-len1-up.len_at_least) at c.requires in
    rw c.from.ensures (room_first c.args.out.now c.args.at (decimal (get_or xs 0 0)) (behind_commas (others xs)) h)

pub loop-entry-init : goal.loop-entry-init
loop-entry-init c = let xs = c.args.entries.now in
    let p = c.put_decimal-end in
    let first = rw c.from.ensures at p.ensures in
    let h = rw (entries_some xs c.in-len1-up.len_at_least) at c.requires in
    parting_starts _ _ _ (omega (arith, h, length-append (decimal (get_or xs 0 0)) (behind_commas (others xs)), first.place, p.auto.out))

pub put_text-a-requires : goal.put_text-a-requires
put_text-a-requires c = comma_room c.loop-entry.invariant c.loop-entry-test.true

pub put_decimal-end-requires-in-loop-entry : goal.put_decimal-end-requires-in-loop-entry
put_decimal-end-requires-in-loop-entry c =
    rw c.from-in-loop-entry.ensures (entry_room c.loop-entry.invariant c.loop-entry-test.true c.put_text-a.ensures)

pub loop-entry-preserved : goal.loop-entry-preserved
loop-entry-preserved c =
    let entry = rw c.from-in-loop-entry.ensures at c.put_decimal-end-in-loop-entry.ensures in
    parting_more c.loop-entry.invariant c.loop-entry-test.true c.put_text-a.ensures entry

pub returns : goal.returns
returns c = let xs = c.args.entries.now in
    let some = entries_some xs c.in-len1-up.len_at_least in
    let first = rw c.from.ensures at c.put_decimal-end.ensures in
    let rest = parting_ends c.loop-entry.invariant c.loop-entry-test.false in
    rw some (put_both _ _ (decimal (get_or xs 0 0)) (behind_commas (others xs)) (rw some at c.requires) first rest)
