-- `cmd_text::put_text` meets its contract.
-- Assumes nothing.
use Rattle.cmd_text.proofs.Lines.{put_copied}
use Rattle.cmd_text.proofs.put_text.Goals as goal

pub returns : goal.returns
returns c = put_copied _ _ _ c.copy_from_slice.ensures.after
