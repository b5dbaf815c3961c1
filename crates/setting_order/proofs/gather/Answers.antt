-- `setting_order::gather` meets its contract.
-- Assumes nothing.
use mathlib.Core.Path.{◌≡◌, ◌∙◌}
use mathlib.Core.List.{◌++◌}
use Prim.Native.Nat.{◌+◌}
use native.Mathlib.Omega.{arith}
use lib.ListN.{length, drop}
use lib.Seq.{length-take-le}
use Rattle.answers.specs.Buffers.{overlay}
use Rattle.permutation.specs.Permutations.{tabulate}
use Rattle.permutation.proofs.Tables.{length-tabulate, is_tabulate}
use Rattle.setting_order.specs.Inner.{number_in}
use Rattle.setting_order.proofs.gather.Goals as goal

pub returns : goal.returns
unfolding overlay
returns c = let n = c.args.n in
    let f = number_in c.args.blocks.now in
    let order = c.args.order.now in
    let items = c.loop-i.entry-items in
    let long : length items ≡ n = c.loop-i.auto.entry-items ∙ length-take-le n order (omega arith) in
    let made : items ≡ tabulate f n = is_tabulate f n items long (λ j l. c.loop-i.invariant j (omega arith)) in
    let past : n ≡ 0 + length (tabulate f n) = omega (arith, length-tabulate f n) in
    λ i. made i ++ drop (past i) order
