-- `sheet_writer::gather` meets its contract.
-- Assumes nothing.
use native.Mathlib.Omega.{arith}
use mathlib.Core.Path.{refl}
use Prim.Native.Nat.{◌-◌, ◌*◌}
use lib.ListN.{drop, length-take}
use Rattle.sheets.specs.Sheet.{fourteens}
use Rattle.sheets.proofs.Unpacking.{bits_take, bits_drop}
use Rattle.sheet_writer.proofs.Writing.{gathered_more}
use Rattle.sheet_writer.proofs.gather.Goals as goal

pub loop-j-init : goal.loop-j-init
unfolding fourteens
loop-j-init c = refl

pub fourteen-requires : goal.fourteen-requires
fourteen-requires c = let from = c.loop-j.j * 14 in
    let bits = c.args.bits.now in
    (omega (arith, length-take (c.min-end.result - from) (drop from bits), c.min-end.ensures), bits_take (c.min-end.result - from) (drop from bits) (bits_drop from bits c.requires.1))

pub loop-j-preserved : goal.loop-j-preserved
loop-j-preserved c =
    gathered_more c.args.bits.now c.loop-j.row c.loop-j.j c.fourteen.result c.min-end.result (omega arith)
    (omega (arith, c.requires.0)) (omega (arith, c.min-end.ensures)) c.fourteen.ensures c.loop-j.invariant
