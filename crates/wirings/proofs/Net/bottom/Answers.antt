-- The bottom half by the network's spacing.
-- Assumes nothing.
use Rattle.std.proofs.Common.{arith}
use Rattle.wirings.proofs.Halves.{bottom_starts}
use Rattle.wirings.proofs.Net.bottom.Goals as goal

pub overflow_add-result : goal.overflow_add-result
overflow_add-result c = let s = c.spacing-s in
    omega (arith, bottom_starts c.args.self s.result.step s.result.gap s.ensures c.requires.1 c.requires.0)
