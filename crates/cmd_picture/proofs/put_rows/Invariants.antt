-- `cmd_picture::put_rows` meets its contract.
-- Assumes nothing.
use Rattle.cmd_picture.proofs.Marks.{Rowing}
use Rattle.cmd_picture.proofs.put_rows.Given as goal

abbrev pub invariant-loop-place : goal.invariant-loop-place
invariant-loop-place l = Rowing l.setting.places l.log l.setting.bits.now l.setting.places l.initial.out l.at l.out l.end l.place
