-- `shuffle_fair::choose` meets its contract.
-- Assumes nothing.
use mathlib.Core.Path.{◌≡◌, refl, sym}
use Prim.Native.Nat.{◌<◌}
use native.Mathlib.Omega.{arith}
use lib.ListN.{length, get_or}
use Rattle.std.proofs.lemmas.List.{get_or_read_under}
use borrow.Author.Tests.{ltb-true, ltb-false}
use Rattle.shuffle_fair.proofs.Choosing.{choosing_starts, choosing_more, choosing_ends, choosing_fails}
use Rattle.shuffle_fair.proofs.choose.Goals as goal

pub loop-i-init : goal.loop-i-init
loop-i-init c = choosing_starts _ _ _ (omega arith)

pub returns-in_err-word : goal.returns-in_err-word
returns-in_err-word c =
    rw c.from_residual.ensures
    (choosing_fails _ _ _ c.loop-i.invariant c.loop-i-test.true (ltb-false _ _ (sym c.in_err-word.ensures.lookup.0)))

pub loop-i-preserved : goal.loop-i-preserved
loop-i-preserved c = let words = c.args.words.now in
    let used = c.loop-i.used in
    let found = c.in_ok-word.ensures.lookup in
    let left : used < length words = ltb-true _ _ (sym found.0) in
    let word : c.in_ok-word.field-0.now ≡ get_or words used 0 = get_or_read_under words used _ _ _ found.1 left refl in
    rw word (choosing_more _ _ _ c.loop-i.invariant c.loop-i-test.true left c.requires (rw word at c.taken.ensures.0))

pub returns : goal.returns
returns c = choosing_ends _ _ _ c.loop-i.invariant c.loop-i-test.false
