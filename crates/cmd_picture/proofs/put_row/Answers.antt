-- `cmd_picture::put_row` meets its contract.
-- Assumes nothing.
use mathlib.Core.Path.{sym, ap, ◌∙◌}
use native.Mathlib.Omega.{arith}
use lib.ListN.{length}
use lib.Seq.{length-take-le}
use Rattle.answers.proofs.Putting.{put_front, put_within, put_then}
use Rattle.permutation.proofs.Tables.{length-tabulate}
use Rattle.cmd_picture.specs.Inner.{mark_in}
use Rattle.cmd_picture.proofs.Switches.{small}
use Rattle.cmd_picture.proofs.put_row.Goals as goal

pub put_columns-w-requires : goal.put_columns-w-requires
put_columns-w-requires c =
    (c.requires.1, omega (arith, length-tabulate (mark_in c.args.log.now c.args.setting.now.bits.now c.args.place) (length c.args.setting.now.bits.now), small c.args.setting.now.places c.args.setting.now.few, c.args.setting.now.long))

pub slice_bounds-columns-end : goal.slice_bounds-columns-end
slice_bounds-columns-end c = put_within c.put_columns-w.ensures

pub slice_bounds-put_line-end : goal.slice_bounds-put_line-end
slice_bounds-put_line-end c = sym (length-take-le _ _ (put_within c.put_columns-w.ensures))

pub put_line-requires : goal.put_line-requires
put_line-requires c =
    let e = put_front c.put_columns-w.ensures in (c.args.setting.now.some, c.args.setting.now.few, ap length e ∙ length-tabulate (mark_in c.args.log.now c.args.setting.now.bits.now c.args.place) (length c.args.setting.now.bits.now) ∙ c.args.setting.now.long, rw e (omega (arith, c.requires.2, c.put_label-a.ensures.place, c.put_label-a.auto)))

pub returns : goal.returns
returns c = put_then (omega (arith, c.requires.2)) c.put_label-a.ensures (rw (put_front c.put_columns-w.ensures) at c.put_line.ensures)
