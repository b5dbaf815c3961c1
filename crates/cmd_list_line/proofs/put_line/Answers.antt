-- `cmd_list_line::put_line` meets its contract.
-- Assumes nothing.
use Rattle.cmd_text.specs.Text.{bits_text, line}
use Rattle.cmd_text.proofs.Lines.{room_first}
use Rattle.cmd_list_line.specs.Line.{entries_text}
use Rattle.cmd_list_line.proofs.Putting.{space_room, bits_room, newline_room, line_put}
use Rattle.cmd_list_line.proofs.put_line.Goals as goal

pub put_entries-a-requires : goal.put_entries-a-requires
put_entries-a-requires c = let a = c.args in
    room_first a.out.now a.at (entries_text a.order.now) (line " " (bits_text a.bits.now)) c.requires

pub put_text-b-requires : goal.put_text-b-requires
put_text-b-requires c = space_room c.args.order.now c.args.bits.now c.requires c.put_entries-a.ensures

pub put_bits-c-requires : goal.put_bits-c-requires
put_bits-c-requires c = bits_room c.args.order.now c.args.bits.now c.requires c.put_entries-a.ensures c.put_text-b.ensures

pub put_text-requires : goal.put_text-requires
put_text-requires c = let a = c.args in
    newline_room a.order.now a.bits.now c.requires c.put_entries-a.ensures c.put_text-b.ensures c.put_bits-c.ensures

pub returns : goal.returns
returns c = let a = c.args in
    line_put a.order.now a.bits.now c.requires c.put_entries-a.ensures c.put_text-b.ensures c.put_bits-c.ensures
    c.put_text.ensures
