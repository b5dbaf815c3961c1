-- `cmd_draw::gather` meets its contract.
-- Assumes nothing.
use native.Mathlib.Omega.{arith}
use mathlib.Core.Path.{refl}
use Rattle.permutation.specs.Permutations.{tabulate}
use Rattle.cmd_draw.specs.Draw.{word_at}
use Rattle.cmd_draw.proofs.Drawn.{gathered_more}
use Rattle.cmd_draw.proofs.gather.Goals as goal

pub loop-i-init : goal.loop-i-init
unfolding tabulate
loop-i-init c = refl

pub loop-i-preserved : goal.loop-i-preserved
loop-i-preserved c = gathered_more (word_at c.args.bytes.now) _ _ _ (omega arith) c.word_at.ensures c.loop-i.invariant
