-- `cmd_text::put_setting` meets its contract.
-- Assumes nothing.
use Rattle.cmd_text.proofs.Lines.{put_three}
use Rattle.cmd_text.proofs.put_setting.Goals as goal

pub returns : goal.returns
returns c = put_three _ _ c.put_text-a.ensures c.requires c.put_bits-end.ensures c.put_text.ensures
