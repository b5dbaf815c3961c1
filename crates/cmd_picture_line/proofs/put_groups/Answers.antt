-- `cmd_picture_line::put_groups` meets its contract.
-- Assumes nothing.
use Prim.Native.Nat.{◌-◌}
use lib.ListN.{take, drop}
use Rattle.cmd_picture_line.specs.Line.{group}
use Rattle.cmd_picture_line.proofs.Grouping.{put_four, tail_is}
use Rattle.cmd_picture_line.proofs.put_groups.Goals as goal

pub returns : goal.returns
returns c =
    let cs = c.args.columns.now in let q = group (take (c.args.b - c.args.a) (drop c.args.a cs)) in let r = group (take (c.args.c - c.args.b) (drop c.args.b cs)) in let t = drop c.args.c cs in put_four q r t c.put_group-top.ensures c.requires.3 c.put_group-bottom.ensures c.put_group-output.ensures (rw (tail_is c.args.c cs) at c.put_text.ensures)
