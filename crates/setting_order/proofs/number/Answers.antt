-- `setting_order::number` meets its contract.
-- Assumes nothing.
use lib.ListN.{length-set}
use native.Mathlib.Omega.{arith}
use Rattle.setting_order.proofs.Numbering.{low_byte, high_byte, numbering_starts, numbering_more, numbering_ends}
use Rattle.setting_order.proofs.number.Goals as goal

pub loop-i-init : goal.loop-i-init
loop-i-init c = numbering_starts _ _

pub bounds-blocks-i : goal.bounds-blocks-i
bounds-blocks-i c = omega (arith, c.loop-i.invariant.same, c.requires)

pub bounds-blocks-i-in-loop-i : goal.bounds-blocks-i-in-loop-i
bounds-blocks-i-in-loop-i c = rw length-set (omega (arith, c.loop-i.invariant.same, c.requires))

pub loop-i-preserved : goal.loop-i-preserved
loop-i-preserved c =
    let bytes = c.to_le_bytes.result in
    rw (low_byte bytes c.loop-i.i c.to_le_bytes.ensures, high_byte bytes c.loop-i.i (omega arith) c.to_le_bytes.ensures)
    (numbering_more _ _ c.loop-i.invariant c.loop-i-test.true c.requires.1)

pub shape_of-blocks : goal.shape_of-blocks
shape_of-blocks c = c.loop-i.invariant.same

pub returns : goal.returns
returns c = numbering_ends _ _ c.loop-i.invariant c.loop-i-test.false
