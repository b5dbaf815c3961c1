-- `record_questions::first_bad` meets its contract.
-- Assumes nothing.
use mathlib.Core.Path.{sym, ◌∙◌}
use native.Mathlib.Omega.{arith}
use lib.Seq.{length-take-le}
use Rattle.permutation.proofs.Sweeps.{sweeping_from, sweeping_more, sweeping_ends}
use Rattle.record_questions.proofs.Questions.{good_past, front-bad}
use Rattle.record_questions.proofs.first_bad.Goals as goal

pub slice_bounds-first_bad_entry-end : goal.slice_bounds-first_bad_entry-end
slice_bounds-first_bad_entry-end c = sym (length-take-le _ _ (omega arith))

pub first_bad_entry-low-requires : goal.first_bad_entry-low-requires
first_bad_entry-low-requires c = let a = c.args in
    omega (arith, length-take-le a.n a.e.now (omega arith))

pub loop-i-init : goal.loop-i-init
loop-i-init c = let a = c.args in
    sweeping_from _ _ _ (omega arith) (c.first_bad_entry-low.ensures ∙ front-bad a.n a.e.now (omega arith))

pub loop-i-preserved : goal.loop-i-preserved
loop-i-preserved c = let at = c.loop-i in
    let here = sym (good_past c.args.n c.args.e.now at.i (omega arith)) in
    sweeping_more _ _ (omega arith) here c.sweep-low.ensures at.invariant

pub returns : goal.returns
returns c = sweeping_ends _ _ c.loop-i-test.false c.loop-i.invariant
