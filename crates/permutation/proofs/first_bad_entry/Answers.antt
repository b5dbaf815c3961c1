-- `permutation::first_bad_entry` meets its contract.
-- Assumes nothing.
use mathlib.Core.Path.{◌∙◌}
use native.Mathlib.Omega.{arith}
use Rattle.permutation.proofs.Sweeps.{sweeping_starts, sweeping_more, sweeping_ends}
use Rattle.permutation.proofs.Permutations.{good_found, matches_before}
use Rattle.permutation.proofs.first_bad_entry.Goals as goal

pub loop-i-init : goal.loop-i-init
loop-i-init c = sweeping_starts _ _

pub loop-i-preserved : goal.loop-i-preserved
loop-i-preserved c = let at = c.loop-i in let es = c.args.order.now in
    sweeping_more _ _ (omega arith)
    (good_found _ _ _ c.from.ensures (c.count_matches-c.ensures ∙ matches_before es at.i _ (omega arith))) c.sweep-low.ensures at.invariant

pub returns : goal.returns
returns c = sweeping_ends _ _ c.loop-i-test.false c.loop-i.invariant
