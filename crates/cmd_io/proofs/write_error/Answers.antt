-- `cmd_io::write_error` meets its contract: the line of a refusal lies in its room.
-- Assumes nothing.
use Rattle.std.proofs.Common.{sym, length-take-le}
use Rattle.answers.proofs.Putting.{put_within}
use Rattle.cmd_io.proofs.write_error.Goals as goal

pub slice_bounds-line-end : goal.slice_bounds-line-end
slice_bounds-line-end c = put_within c.error_text-n.ensures

pub slice_bounds-write_all-end : goal.slice_bounds-write_all-end
slice_bounds-write_all-end c = sym (length-take-le _ _ (put_within c.error_text-n.ensures))
