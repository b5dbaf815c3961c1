-- The first i bits are given.
-- Assumes nothing.
use native.Mathlib.Omega.{arith}
use mathlib.Core.Path.{◌≡◌, ap, ◌∙◌}
use Prim.Native.Nat.{◌+◌}
use lib.ListN.{get_or}
use Rattle.control_pairs.specs.Pairs.{bits_in}
use Rattle.control_pairs.proofs.Settling.{bits_none, bits_step, given-bit}
use Rattle.control_pairs.proofs.give_bits.Goals as goal

pub loop-i-init : goal.loop-i-init
loop-i-init c = let a = c.args in bits_none a.b a.pairs.now a.bits.now

pub loop-i-preserved : goal.loop-i-preserved
loop-i-preserved c = let a = c.args in
    let l = c.loop-i in
    let x = get_or a.pairs.now l.i 0 in
    let w = c.from-old in
    let e =
    given-bit x (get_or l.bits (a.b + l.i) 0) w.result c.below.result c.pick.result w.ensures c.below.ensures.0 c.pick.ensures
    in
    bits_step a.b l.i a.pairs.now l.bits a.bits.now c.pick.result l.invariant e

pub returns : goal.returns
returns c = let l = c.loop-i in
    let a = c.args in
    let e : l.i ≡ a.n = omega arith in
    l.invariant ∙ ap (λ j. bits_in a.b j a.pairs.now a.bits.now) e
