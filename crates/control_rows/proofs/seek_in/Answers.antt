-- The greatest number so far is one more than the last place that holds a; c is one more than the places so far.
-- Assumes nothing.
use native.Mathlib.Omega.{arith}
use mathlib.Core.Path.{◌≡◌, refl}
use lib.Dec.{eqb}
use lib.ListN.{get_or, take}
use Rattle.std.proofs.lemmas.List.{get_or-take}
use Rattle.control_rows.proofs.Counting.{under_test, seek_none, seek-step, seek_all}
use Rattle.control_rows.proofs.seek_in.Goals as goal

pub loop-x-init : goal.loop-x-init
loop-x-init c = (refl, seek_none _ _)

pub loop-x-preserved : goal.loop-x-preserved
loop-x-preserved c = let l = c.loop-x in
    let a = c.args in
    let b = eqb (get_or a.row.now l.x-index 0) a.a in
    let here : get_or (take c.sixteens-r.result a.row.now) l.x-index 0 ≡ get_or a.row.now l.x-index 0 =
    get_or-take c.sixteens-r.result a.row.now l.x-index 0 (omega arith) in (
      omega arith,
      rw c.most-best.ensures
          (seek-step a.row.now a.a l.x-index l.best _ l.invariant.1
          (rw (c.mask.ensures, c.from.ensures, here, under_test b l.c (omega arith), l.invariant.0))),
    )

pub returns : goal.returns
returns c = let l = c.loop-x in
    let a = c.args in
    rw (c.pick.ensures, c.at_least-found.ensures)
    (seek_all a.row.now a.m a.a l.x-index l.best (omega arith) (omega arith) c.requires.3 l.invariant.1)
