-- The loop over a layer's switches, first to last. Its invariant: the first i have acted and are logged.
-- Assumes nothing.
use native.Mathlib.Omega.{arith}
use mathlib.Core.Path.{◌≡◌, refl, ◌∙◌}
use Prim.Native.Nat.{◌+◌, ◌-◌, ◌*◌, ◌<◌}
use lib.ListN.{length, get_or}
use Rattle.bits.specs.Bits.{Bits}
use Rattle.network.specs.Log.{entry_words}
use Rattle.entry_log.proofs.Written.{packed-written}
use Rattle.apply_layers.proofs.Blocks.{within, few_fit, both_parts}
use Rattle.apply_layers.proofs.Packing.{bit-under, switch-first, switch_next, switch_small}
use Rattle.apply_layers.proofs.Runs.{first_none, first_more}
use Rattle.apply_layers.proofs.ForwardDirection.in_parts.Goals as goal

pub overflow_mul-stride : goal.overflow_mul-stride
overflow_mul-stride c = omega (arith, few_fit c.requires.0 c.requires.1 c.args.step c.requires.1.pace)

pub overflow_mul-across : goal.overflow_mul-across
overflow_mul-across c = omega (arith, few_fit c.requires.0 c.requires.1 c.args.gap (omega (arith, c.requires.1.near)))

pub packed_apart-next-requires : goal.packed_apart-next-requires
packed_apart-next-requires c = let h : c.args.step < 65536 = omega (arith, c.requires.1.pace, c.requires.0.places) in
    (h, h, omega arith)

pub overflow_add-o : goal.overflow_add-o
overflow_add-o c = let p = c.requires in
    omega (arith, p.1.near, p.0.places)

pub packed-x-requires : goal.packed-x-requires
packed-x-requires c = let p = c.requires in (
  omega (arith, c.from-kind.ensures, c.number.ensures),
  omega (arith, p.0.places),
  omega (arith, p.1.near, p.0.places),
  omega (arith, p.0.enough, p.0.short),
)

pub loop-i-init : goal.loop-i-init
loop-i-init c = let a = c.args in (
  (refl, refl),
  switch-first a.step a.gap a.o a.e c.packed-x.result (rw (c.from-kind.ensures, c.number.ensures) at c.packed-x.ensures),
  first_none a.width a.step a.gap a.o a.bits.now a.e a.e a.blocks.now a.log.now,
)

pub overflow_mul-a : goal.overflow_mul-a
overflow_mul-a c = omega (arith, (within c.requires.0 c.requires.1 c.loop-i.i (omega arith)).ends)

pub exchange_whole-requires : goal.exchange_whole-requires
unfolding Bits
exchange_whole-requires c = let p = c.requires in
    let a = c.args in
    let bit = bit-under a.e (length a.bits.now - a.e) c.loop-i.i a.bits.now (omega (arith, c.requires.0.enough)) in
    let x = within c.requires.0 c.requires.1 c.loop-i.i (omega arith) in
    (rw bit (p.0.settings _), p.3, omega (arith, x.apart, p.2), omega (arith, x.ends, p.2))

pub overflow_add-a : goal.overflow_add-a
overflow_add-a c = omega (arith, (within c.requires.0 c.requires.1 c.loop-i.i (omega arith)).ends, c.requires.2)

pub exchange_rest-requires : goal.exchange_rest-requires
unfolding Bits
exchange_rest-requires c = let p = c.requires in
    let a = c.args in
    let bit = bit-under a.e (length a.bits.now - a.e) c.loop-i.i a.bits.now (omega (arith, c.requires.0.enough)) in
    let x = within c.requires.0 c.requires.1 c.loop-i.i (omega arith) in
    (rw bit (p.0.settings _), omega (arith, x.apart, p.2), omega (arith, x.ends, p.2, c.exchange_whole.auto.blocks))

pub overflow_add-x : goal.overflow_add-x
overflow_add-x c = let a = c.args in
    let small = switch_small a.step a.gap a.o a.e c.loop-i.i _ _ c.packed_apart-next.ensures c.loop-i.invariant.1
    (omega (arith, (within c.requires.0 c.requires.1 c.loop-i.i (omega arith)).place)) (omega (arith, c.requires.1.pace, c.requires.0.places))
    (omega (arith, c.requires.0.enough, c.requires.0.short)) in
    omega (arith, small)

pub loop-i-preserved : goal.loop-i-preserved
loop-i-preserved c = let a = c.args in
    let bit = bit-under a.e (length a.bits.now - a.e) c.loop-i.i a.bits.now (omega (arith, c.requires.0.enough)) in
    let i = c.loop-i.i in
    let place = (within c.requires.0 c.requires.1 c.loop-i.i (omega arith)).place in
    let k = c.exchange_rest.auto.blocks ∙ c.exchange_whole.auto.blocks in (
      (k ∙ c.loop-i.invariant.0.0, c.write_packed.auto.log ∙ c.loop-i.invariant.0.1),
      switch_next a.step a.gap a.o a.e i _ _ c.packed_apart-next.ensures c.loop-i.invariant.1,
      first_more a.width a.step a.gap a.o a.bits.now a.e a.e a.blocks.now a.log.now a.c c.requires.1
          c.requires.0 i c.loop-i.blocks c.loop-i.log c.exchange_rest.new.blocks c.write_packed.new.log (omega arith)
          c.loop-i.invariant.0.0 c.loop-i.invariant.2
          (both_parts a.width a.whole a.rest (i * (a.step * a.width)) (a.gap * a.width)
          (get_or a.bits.now (a.e + i) 0) c.loop-i.blocks c.exchange_whole.new.blocks c.exchange_rest.new.blocks c.requires.2
          (rw bit at c.exchange_whole.ensures) (rw bit at c.exchange_rest.ensures))
          (packed-written c.loop-i.log c.write_packed.new.log (entry_words * (a.e + i)) c.loop-i.x 7 (a.o + i * a.step)
          (a.o + (i * a.step + a.gap)) (a.e + i) c.loop-i.invariant.1 (omega arith) (omega (arith, place)) (omega (arith, place))
          c.write_packed.ensures),
    )

pub shape_of-blocks : goal.shape_of-blocks
shape_of-blocks c = c.loop-i.invariant.0.0

pub shape_of-log : goal.shape_of-log
shape_of-log c = c.loop-i.invariant.0.1

pub returns : goal.returns
returns c = let a = c.args in
    let done : c.loop-i.i ≡ a.c = omega arith in
    rw done at c.loop-i.invariant.2
