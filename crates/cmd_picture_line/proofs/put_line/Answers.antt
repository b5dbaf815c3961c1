-- `cmd_picture_line::put_line` meets its contract.
-- Assumes nothing.
use mathlib.Core.Path.{ap}
use native.Mathlib.Omega.{arith}
use lib.ListN.{length, length-append}
use Rattle.answers.proofs.Putting.{put_then}
use Rattle.counts.proofs.Rule.{up_ceil}
use Rattle.cmd_text.specs.Text.{text}
use Rattle.cmd_picture_line.specs.Line.{grouped}
use Rattle.cmd_picture_line.proofs.Grouping.{output_within, groups_are}
use Rattle.cmd_picture_line.proofs.put_line.Goals as goal

pub put_groups-a-requires : goal.put_groups-a-requires
put_groups-a-requires c =
    let n = c.args.n in let u = up_ceil n c.div_ceil-k.result c.div_ceil-k.ensures in let cs = c.args.columns.now in let w = c.switches.ensures.0 in let v = c.switches-2.ensures.0 in (omega arith, omega arith, omega (arith, rw u at w, rw u at v, c.requires.2, output_within n c.requires.0, u), rw (groups_are n cs u w v) (omega (arith, c.requires.3, length-append (grouped n cs) (text "\n"))))

pub put_text-requires : goal.put_text-requires
put_text-requires c =
    let n = c.args.n in let u = up_ceil n c.div_ceil-k.result c.div_ceil-k.ensures in let cs = c.args.columns.now in let e = groups_are n cs u c.switches.ensures.0 c.switches-2.ensures.0 in omega (arith, c.requires.3, c.put_groups-a.ensures.place, c.put_groups-a.auto, ap length e, length-append (grouped n cs) (text "\n"))

pub returns : goal.returns
returns c =
    let n = c.args.n in let u = up_ceil n c.div_ceil-k.result c.div_ceil-k.ensures in let cs = c.args.columns.now in let e = groups_are n cs u c.switches.ensures.0 c.switches-2.ensures.0 in put_then (omega (arith, c.requires.3, length-append (grouped n cs) (text "\n"))) (rw e at c.put_groups-a.ensures) c.put_text.ensures
