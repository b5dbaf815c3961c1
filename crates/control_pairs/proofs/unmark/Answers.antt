-- The sweep is over the front of the table.
-- Assumes nothing.
use native.Mathlib.Omega.{arith}
use mathlib.Core.Path.{◌∙◌}
use Rattle.std.proofs.Math.ListN.{get_or-append}
use Rattle.std.proofs.lemmas.List.{length-take}
use Rattle.control_pairs.specs.Pairs.{Unmarked}
use Rattle.control_pairs.proofs.unmark.Goals as goal

pub returns : goal.returns
unfolding Unmarked
returns c = λ i h. let l = c.loop-pair in
    let all = length-take c.sixteens.result c.args.pairs.now in
    get_or-append l.pair-items _ 0 i (omega (arith, all)) ∙ l.invariant.1 i (omega (arith, all))
