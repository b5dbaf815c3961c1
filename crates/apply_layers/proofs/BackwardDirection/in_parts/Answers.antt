-- The loop over a layer's switches, last to first. Its invariant: whoever runs what is left has run the whole layer.
-- Assumes nothing.
use native.Mathlib.Omega.{arith}
use mathlib.Core.Path.{◌≡◌, refl, ◌∙◌}
use Prim.Native.Nat.{suc, ◌+◌, ◌*◌, ◌-◌, ◌<◌}
use lib.ListN.{length, get_or}
use Rattle.bits.specs.Bits.{Bits}
use Rattle.network.specs.Log.{entry_words}
use Rattle.entry_log.proofs.Written.{packed-written}
use Rattle.apply_layers.proofs.Blocks.{within, past_near, few_fit, both_parts}
use Rattle.apply_layers.proofs.Packing.{switch-above, switch-before}
use Rattle.apply_layers.proofs.Runs.{leads_more, leads_none}
use Rattle.apply_layers.proofs.BackwardDirection.in_parts.Goals as goal

pub overflow_mul-stride : goal.overflow_mul-stride
overflow_mul-stride c = omega (arith, few_fit c.requires.0 c.requires.1 c.args.step c.requires.1.pace)

pub overflow_mul-across : goal.overflow_mul-across
overflow_mul-across c = omega (arith, few_fit c.requires.0 c.requires.1 c.args.gap (omega (arith, c.requires.1.near)))

pub overflow_mul-past : goal.overflow_mul-past
overflow_mul-past c = let p = c.requires in
    omega (arith, past_near p.0 p.1)

pub packed_apart-next-requires : goal.packed_apart-next-requires
packed_apart-next-requires c = let h : c.args.step < 65536 = omega (arith, c.requires.1.pace, c.requires.0.places) in
    (h, h, omega arith)

pub overflow_add-o : goal.overflow_add-o
overflow_add-o c = let p = c.requires in
    omega (arith, past_near p.0 p.1, p.0.places)

pub overflow_add-past : goal.overflow_add-past
overflow_add-past c = let p = c.requires in
    omega (arith, past_near p.0 p.1, p.0.places, p.1.near)

pub overflow_add-o-2 : goal.overflow_add-o-2
overflow_add-o-2 c = let p = c.requires in
    omega (arith, past_near p.0 p.1, p.0.places, p.1.near)

pub packed-x-requires : goal.packed-x-requires
packed-x-requires c = let p = c.requires in
    let n = past_near p.0 p.1 in (
      omega (arith, c.from-kind.ensures, c.number.ensures),
      omega (arith, n, p.0.places),
      omega (arith, n, p.1.near, p.0.places),
      omega (arith, p.0.enough, p.0.short),
    )

pub loop-i-init : goal.loop-i-init
loop-i-init c = ((omega arith, (refl, (refl, refl))), rw (c.from-kind.ensures, c.number.ensures) at c.packed-x.ensures, λ b l r. r)

pub overflow_sub-x : goal.overflow_sub-x
overflow_sub-x c = let i : c.loop-i.i ≡ suc (c.loop-i.i - 1) = omega (arith, c.loop-i-test.true) in
    switch-above c.args.step _ _ _ c.loop-i.i (c.loop-i.i - 1) _ _ i
    c.packed_apart-next.ensures c.loop-i.invariant.1

pub overflow_mul-a : goal.overflow_mul-a
overflow_mul-a c = omega (arith, (within c.requires.0 c.requires.1 (c.loop-i.i - 1) (omega arith)).ends)

pub exchange_whole-requires : goal.exchange_whole-requires
unfolding Bits
exchange_whole-requires c = let p = c.requires in
    let x = within c.requires.0 c.requires.1 (c.loop-i.i - 1) (omega arith) in
    (p.0.settings _, p.3, omega (arith, x.apart, p.2), omega (arith, x.ends, p.2))

pub overflow_add-a : goal.overflow_add-a
overflow_add-a c = omega (arith, (within c.requires.0 c.requires.1 (c.loop-i.i - 1) (omega arith)).ends, c.requires.2)

pub exchange_rest-requires : goal.exchange_rest-requires
unfolding Bits
exchange_rest-requires c = let p = c.requires in
    let x = within c.requires.0 c.requires.1 (c.loop-i.i - 1) (omega arith) in
    (p.0.settings _, omega (arith, x.apart, p.2), omega (arith, x.ends, p.2, c.exchange_whole.auto.blocks))

pub loop-i-preserved : goal.loop-i-preserved
loop-i-preserved c = let a = c.args in
    let j = c.loop-i.i - 1 in
    let first = length a.bits.now - (a.e + a.c) in
    let i : c.loop-i.i ≡ suc j = omega arith in
    let place = (within c.requires.0 c.requires.1 (c.loop-i.i - 1) (omega arith)).place in
    let now = switch-before a.step a.gap a.o first c.loop-i.i j _ _ i c.packed_apart-next.ensures c.loop-i.invariant.1 in
    let k = c.exchange_rest.auto.blocks ∙ c.exchange_whole.auto.blocks in (
      (omega arith, (omega arith, (k ∙ c.loop-i.invariant.0.1.1.0, c.write_packed.auto.log ∙ c.loop-i.invariant.0.1.1.1))),
      now,
      leads_more a.width a.step a.gap a.o a.bits.now first a.e a.blocks.now a.log.now a.c c.requires.1
          c.requires.0 c.loop-i.i j c.loop-i.to c.loop-i.blocks c.loop-i.log c.exchange_rest.new.blocks c.write_packed.new.log
          i (omega arith) c.loop-i.invariant.0.1.1.0 k (omega (arith, c.requires.0.room, c.loop-i.invariant.0)) c.loop-i.invariant.2
          (both_parts a.width a.whole a.rest (j * (a.step * a.width)) (a.gap * a.width)
          (get_or a.bits.now (first + j) 0) c.loop-i.blocks c.exchange_whole.new.blocks c.exchange_rest.new.blocks c.requires.2
          c.exchange_whole.ensures c.exchange_rest.ensures)
          (packed-written c.loop-i.log c.write_packed.new.log (entry_words * c.loop-i.to) _ 7 (a.o + j * a.step)
          (a.o + (j * a.step + a.gap)) (first + j) now (omega arith) (omega (arith, place)) (omega (arith, place))
          c.write_packed.ensures),
    )

pub shape_of-blocks : goal.shape_of-blocks
shape_of-blocks c = c.loop-i.invariant.0.1.1.0

pub shape_of-log : goal.shape_of-log
shape_of-log c = c.loop-i.invariant.0.1.1.1

pub returns : goal.returns
returns c = let a = c.args in
    leads_none a.width a.step a.gap a.o a.bits.now (length a.bits.now - (a.e + a.c)) a.e a.blocks.now
    a.log.now a.c c.loop-i.i c.loop-i.to c.loop-i.blocks c.loop-i.log (omega arith) c.loop-i.invariant.2
