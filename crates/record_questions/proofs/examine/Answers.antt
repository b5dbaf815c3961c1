-- `record_questions::examine` meets its contract.
-- Assumes nothing.
use mathlib.Core.Path.{sym}
use native.Mathlib.Omega.{arith}
use lib.Seq.{length-take-le}
use Rattle.record_questions.proofs.Questions.{examined_large, examined_bad, examined_number, examined_good}
use Rattle.record_questions.proofs.examine.Goals as goal

pub returns-then-n-gt-MOST_PLACES : goal.returns-then-n-gt-MOST_PLACES
returns-then-n-gt-MOST_PLACES c = let a = c.args in
    rw c.of.ensures (examined_large a.n a.e.now a.fixed c.if-n-gt-MOST_PLACES.true)

pub returns-then-low-lt1024 : goal.returns-then-low-lt1024
returns-then-low-lt1024 c = let a = c.args in
    rw c.at.ensures
    (examined_bad a.n a.e.now a.fixed c.if-n-gt-MOST_PLACES.false c.first_bad-low.ensures c.if-low-lt1024.true)

pub slice_bounds-fixed_points-end : goal.slice_bounds-fixed_points-end
slice_bounds-fixed_points-end c = sym (length-take-le _ _ (omega arith))

pub fixed_points-home-requires : goal.fixed_points-home-requires
fixed_points-home-requires c = let a = c.args in
    omega (arith, length-take-le a.n a.e.now (omega arith))

pub returns-then-fixed-home : goal.returns-then-fixed-home
returns-then-fixed-home c = let a = c.args in
    rw c.at-then-fixed-home.ensures
    (examined_number a.n a.e.now a.fixed c.if-n-gt-MOST_PLACES.false c.first_bad-low.ensures c.if-low-lt1024.false
    c.fixed_points-home.ensures c.if-fixed-home.true)

pub returns : goal.returns
returns c = let a = c.args in
    examined_good a.n a.e.now a.fixed c.if-n-gt-MOST_PLACES.false c.first_bad-low.ensures c.if-low-lt1024.false
    c.fixed_points-home.ensures c.if-fixed-home.false
