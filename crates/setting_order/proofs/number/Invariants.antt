-- `setting_order::number` meets its contract.
-- Assumes nothing.
use Rattle.setting_order.proofs.Numbering.{Numbering}
use Rattle.setting_order.proofs.number.Given as goal

abbrev pub invariant-loop-i : goal.invariant-loop-i
invariant-loop-i l = Numbering l.n l.initial.blocks l.blocks l.i
