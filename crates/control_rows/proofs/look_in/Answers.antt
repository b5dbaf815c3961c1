-- What is gathered of the places so far is the number at q once q has passed; c counts with them.
-- Assumes nothing.
use native.Mathlib.Omega.{arith}
use mathlib.Core.Path.{◌≡◌, refl, ap, ◌∙◌}
use mathlib.Core.Bool.{not}
use Prim.Native.Nat.{◌*◌}
use lib.Dec.{ltb}
use lib.ListN.{get_or, take}
use Rattle.steps.specs.Steps.{digit}
use Rattle.std.proofs.lemmas.List.{get_or-take}
use Rattle.control_rows.proofs.Counting.{look_none, look_code, look_all}
use Rattle.control_rows.proofs.look_in.Goals as goal

pub loop-x-init : goal.loop-x-init
loop-x-init c = (refl, look_none _ _)

pub loop-x-preserved : goal.loop-x-preserved
loop-x-preserved c = let l = c.loop-x in
    let a = c.args in
    let here : get_or (take c.sixteens-r.result a.row.now) l.x-index 0 ≡ get_or a.row.now l.x-index 0 =
    get_or-take c.sixteens-r.result a.row.now l.x-index 0 (omega arith) in (
      omega arith,
      look_code a.row.now _ l.x-index l.c l.g _ c.mask.result l.invariant.0 l.invariant.1 here
          (omega (arith, here, c.fits-row l.x-index)) (c.mask.ensures ∙ ap (λ x. x * 65535) c.from.ensures),
    )

pub returns : goal.returns
returns c = let l = c.loop-x in
    let a = c.args in
    let e : c.mask-past.result ≡ digit (not (ltb a.p a.m)) * 65535 = rw (c.mask-past.ensures, c.at_least.ensures) in
    look_all a.row.now a.m a.p c.mask-past.result _ l.g l.x-index (omega arith) (omega arith) e refl (omega arith) l.invariant.1
