-- `cmd_usage::put_subject` meets its contract.
-- Assumes nothing.
use Rattle.cmd_text.specs.Text.{text}
use Rattle.cmd_text.proofs.Lines.{put_three}
use Rattle.cmd_usage.proofs.Programs.{subject_room}
use Rattle.cmd_usage.proofs.put_subject.Goals as goal

pub returns : goal.returns
returns c =
    put_three (text ": ") c.args.what.now (rw c.name.ensures.0 at c.put_text-a.ensures) (subject_room c.args.program c.args.what.now c.requires) c.put_text-b.ensures c.put_text.ensures
