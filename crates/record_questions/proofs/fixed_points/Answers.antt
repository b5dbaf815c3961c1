-- `record_questions::fixed_points` meets its contract.
-- Assumes nothing.
use mathlib.Core.Path.{refl, ◌∙◌}
use native.Mathlib.Omega.{arith}
use Rattle.record_questions.proofs.Counting.{counting_starts, counting_more, counted}
use Rattle.record_questions.proofs.fixed_points.Goals as goal

pub loop-i-init : goal.loop-i-init
loop-i-init c = counting_starts _

pub loop-i-preserved : goal.loop-i-preserved
loop-i-preserved c = counting_more _ refl c.home-c.ensures.0 c.loop-i.invariant

pub returns : goal.returns
returns c = c.from.ensures
    ∙ counted _ _ c.args.list.now (omega arith) refl (λ v l. refl) c.loop-i.invariant
