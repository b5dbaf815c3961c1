-- `cmd_picture::put_heading` meets its contract.
-- Assumes nothing.
use mathlib.Core.Path.{sym, ap, ◌∙◌}
use native.Mathlib.Omega.{arith}
use lib.ListN.{length}
use lib.Seq.{length-take-le}
use Rattle.answers.proofs.Putting.{put_front, put_within, put_then}
use Rattle.cmd_picture.proofs.Switches.{bits_few, bits_each}
use Rattle.cmd_picture.proofs.put_heading.Goals as goal

pub put_bits-w-requires : goal.put_bits-w-requires
put_bits-w-requires c = omega (arith, bits_few c.args.setting.now.places c.args.setting.now.bits.now c.args.setting.now.few c.args.setting.now.long)

pub slice_bounds-columns-end : goal.slice_bounds-columns-end
slice_bounds-columns-end c = put_within c.put_bits-w.ensures

pub slice_bounds-put_line-end : goal.slice_bounds-put_line-end
slice_bounds-put_line-end c = sym (length-take-le _ _ (put_within c.put_bits-w.ensures))

pub put_line-requires : goal.put_line-requires
put_line-requires c =
    let e = put_front c.put_bits-w.ensures in (c.args.setting.now.some, c.args.setting.now.few, ap length e ∙ bits_each c.args.setting.now.places c.args.setting.now.bits.now c.args.setting.now.some c.args.setting.now.long, rw e (omega (arith, c.requires, c.put_text-a.ensures.place, c.put_text-a.auto)))

pub returns : goal.returns
returns c = put_then (omega (arith, c.requires)) c.put_text-a.ensures (rw (put_front c.put_bits-w.ensures) at c.put_line.ensures)
