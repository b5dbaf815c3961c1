-- `cmd_draw::gather` meets its contract.
-- Assumes nothing.
use mathlib.Core.Path.{◌≡◌}
use lib.ListN.{take}
use Rattle.permutation.specs.Permutations.{tabulate}
use Rattle.cmd_draw.specs.Draw.{word_at}
use Rattle.cmd_draw.proofs.gather.Given as goal

abbrev pub invariant-loop-i : goal.invariant-loop-i
invariant-loop-i l = take l.i l.words ≡ tabulate (word_at l.bytes) l.i
