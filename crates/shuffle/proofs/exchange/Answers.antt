-- `shuffle::exchange` meets its contract.
-- Assumes nothing.
use mathlib.Core.Path.{◌≡◌, sym, ap, ◌∙◌}
use Prim.Native.Nat.{◌<◌}
use native.Mathlib.Omega.{arith}
use lib.ListN.{length}
use Rattle.std.proofs.lemmas.List.Edits.{swap_is}
use Rattle.shuffle.specs.Shuffled.{stepped}
use Rattle.shuffle.proofs.Steps.{none_stepped, one-stepped}
use Rattle.shuffle.proofs.exchange.Goals as goal

pub loop-i-init : goal.loop-i-init
loop-i-init c = none_stepped _ _

pub loop-i-preserved : goal.loop-i-preserved
loop-i-preserved c = let at = c.loop-i in
    let within : at.i < length at.out = omega arith in
    let other : c.partner_of.result < length at.out = omega arith in
    c.swap.ensures.after
    ∙ sym (swap_is at.out at.i c.partner_of.result 0 within other)
    ∙ one-stepped _ _ at.i c.partner_of.ensures.0 at.invariant

pub returns : goal.returns
returns c = let a = c.args in
    let e : c.loop-i.i ≡ length a.words.now = omega arith in
    c.loop-i.invariant ∙ ap (λ k. stepped k a.words.now a.out.now) e
