-- The proof of the cycle of calls {run_back}.
-- Assumes nothing.
use native.Mathlib.Omega.{arith}
use mathlib.Core.Path.{refl, sym}
use Rattle.network.proofs.RunBack.{below-reverse}
use Rattle.wirings.specs.Nets.{net_of}
use Rattle.wirings.proofs.Halves.{step_inside, gap_inside}
use Rattle.apply_layers.proofs.Network.{nothing-back, pair_back, returned}
use Rattle.apply_layers.proofs.Lending.{same, same_then, inside_all}
use Rattle.apply_layers.proofs.Halved.{halved, lengths, halved_top, halved_bottom, starts, top_below, for_pair, top_fits, top_long}
use Rattle.apply_layers.proofs.Halved.{bottom_fits, for_layer, for_top, for_bottom, top_kept, bottom_kept, ran_top, ran_bottom}
use Rattle.apply_backward.proofs.+run_back.Goals as goal

pub returns-then-m-lt2 : goal.returns-then-m-lt2
returns-then-m-lt2 t c = let a = c.args in
    nothing-back (net_of a.t a.o a.m a.apart) a.width a.o a.e a.bits.now a.blocks.now a.log.now c.if-m-lt2.true

pub step-step-requires : goal.step-step-requires
step-step-requires t c = let p = c.requires in
    omega (arith, step_inside (inside_all p.0 p.1) c.if-m-lt2.false)

pub gap-gap-requires : goal.gap-gap-requires
gap-gap-requires t c = let p = c.requires in
    omega (arith, gap_inside (inside_all p.0 p.1) c.if-m-lt2.false)

pub pair-requires : goal.pair-requires
pair-requires t c = let H = halved c.requires c.if-m-lt2.false c.step-step.ensures c.gap-gap.ensures in
    for_pair H c.if-m-eq2.true

pub returns-then-m-eq2 : goal.returns-then-m-eq2
returns-then-m-eq2 t c = let a = c.args in
    let H = halved c.requires c.if-m-lt2.false c.step-step.ensures c.gap-gap.ensures in
    pair_back H.spaced a.width a.o a.e a.bits.now c.if-m-eq2.true c.pair.ensures

pub overflow_mul-end : goal.overflow_mul-end
overflow_mul-end t c = let H = halved c.requires c.if-m-lt2.false c.step-step.ensures c.gap-gap.ensures in
    omega (arith, H.sizes.near)

pub overflow_add-end : goal.overflow_add-end
overflow_add-end t c = let H = halved c.requires c.if-m-lt2.false c.step-step.ensures c.gap-gap.ensures in
    omega (arith, H.sizes.near)

pub overflow_mul-end-2 : goal.overflow_mul-end-2
overflow_mul-end-2 t c = let H = halved c.requires c.if-m-lt2.false c.step-step.ensures c.gap-gap.ensures in
    omega (arith, top_fits H (same _ _))

pub overflow_mul-cut : goal.overflow_mul-cut
overflow_mul-cut t c = let H = halved c.requires c.if-m-lt2.false c.step-step.ensures c.gap-gap.ensures in
    omega (arith, bottom_fits H (same _ _))

pub overflow_add-at : goal.overflow_add-at
overflow_add-at t c = let H = halved c.requires c.if-m-lt2.false c.step-step.ensures c.gap-gap.ensures in
    omega (arith, starts H)

pub layer-requires : goal.layer-requires
layer-requires t c = let H = halved c.requires c.if-m-lt2.false c.step-step.ensures c.gap-gap.ensures in
    for_layer H (same _ _) (omega arith) (omega arith) (omega (arith, H.sizes.count))

pub slice_bounds-run_back-count : goal.slice_bounds-run_back-count
slice_bounds-run_back-count t c = let H = halved c.requires c.if-m-lt2.false c.step-step.ensures c.gap-gap.ensures in
    bottom_fits H (lengths c.layer.auto.blocks c.layer.auto.log)

pub slice_bounds-run_back-start : goal.slice_bounds-run_back-start
slice_bounds-run_back-start t c = let H = halved c.requires c.if-m-lt2.false c.step-step.ensures c.gap-gap.ensures in
    bottom_fits H (lengths c.layer.auto.blocks c.layer.auto.log)

pub run_back-bottom-requires : goal.run_back-bottom-requires
run_back-bottom-requires t c = let H = halved c.requires c.if-m-lt2.false c.step-step.ensures c.gap-gap.ensures in
    (omega (arith, c.decreases), for_bottom H (lengths c.layer.auto.blocks c.layer.auto.log) (omega (arith, H.sizes.count)))

pub slice_bounds-run_back-end-2 : goal.slice_bounds-run_back-end-2
slice_bounds-run_back-end-2 t c = let H = halved c.requires c.if-m-lt2.false c.step-step.ensures c.gap-gap.ensures in
    let k1 = lengths c.layer.auto.blocks c.layer.auto.log in
    let k2 = bottom_kept H k1 c.run_back-bottom.new.blocks c.run_back-bottom.auto.blocks c.run_back-bottom.auto.log in
    top_fits H (same_then k1 k2)

pub slice_bounds-run_back-end-3 : goal.slice_bounds-run_back-end-3
slice_bounds-run_back-end-3 t c = let H = halved c.requires c.if-m-lt2.false c.step-step.ensures c.gap-gap.ensures in
    let k1 = lengths c.layer.auto.blocks c.layer.auto.log in
    let k2 = bottom_kept H k1 c.run_back-bottom.new.blocks c.run_back-bottom.auto.blocks c.run_back-bottom.auto.log in
    sym (top_long H (same_then k1 k2))

pub run_back-top-requires : goal.run_back-top-requires
run_back-top-requires t c = let H = halved c.requires c.if-m-lt2.false c.step-step.ensures c.gap-gap.ensures in
    let k1 = lengths c.layer.auto.blocks c.layer.auto.log in
    let k2 = bottom_kept H k1 c.run_back-bottom.new.blocks c.run_back-bottom.auto.blocks c.run_back-bottom.auto.log in
    (omega (arith, c.decreases), for_top H (same_then k1 k2) (omega (arith, H.sizes.count, c.run_back-bottom.ensures.0)))

pub layer-requires-2 : goal.layer-requires-2
layer-requires-2 t c = let H = halved c.requires c.if-m-lt2.false c.step-step.ensures c.gap-gap.ensures in
    let k1 = lengths c.layer.auto.blocks c.layer.auto.log in
    let k2 = bottom_kept H k1 c.run_back-bottom.new.blocks c.run_back-bottom.auto.blocks c.run_back-bottom.auto.log in
    let k3 = top_kept H (same_then k1 k2) c.run_back-top.new.blocks c.run_back-top.auto.blocks c.run_back-top.auto.log in
    for_layer H (same_then (same_then k1 k2) k3) (omega arith) (omega arith)
    (omega (arith, H.sizes.count, c.run_back-bottom.ensures.0, c.run_back-top.ensures.0))

pub overflow_add-result-2 : goal.overflow_add-result-2
overflow_add-result-2 t c = let H = halved c.requires c.if-m-lt2.false c.step-step.ensures c.gap-gap.ensures in
    let z = H.sizes in
    omega (arith, z.count, z.enough, z.short, c.run_back-bottom.ensures.0, c.run_back-top.ensures.0)

pub returns : goal.returns
returns t c = let a = c.args in
    let H = halved c.requires c.if-m-lt2.false c.step-step.ensures c.gap-gap.ensures in
    let z = H.sizes in
    let far1 = c.run_back-bottom.ensures.0 in
    let far2 = c.run_back-top.ensures.0 in
    let k1 = lengths c.layer.auto.blocks c.layer.auto.log in
    let k2 = bottom_kept H k1 c.run_back-bottom.new.blocks c.run_back-bottom.auto.blocks c.run_back-bottom.auto.log in
    let k3 = top_kept H (same_then k1 k2) c.run_back-top.new.blocks c.run_back-top.auto.blocks c.run_back-top.auto.log in (
      omega (arith, z.count, far1, far2),
      returned H.spaced z.two (halved_top H) (halved_bottom H) a.width a.o a.bits.now (omega (arith, z.count, z.room, far1, far2))
          k1 k2 k3 z.enough refl far1 far2 c.layer.ensures
          (ran_bottom H k1 c.run_back-bottom.new.blocks c.run_back-bottom.ensures.1)
          (ran_top H (same_then k1 k2) c.run_back-top.new.blocks c.run_back-top.auto.blocks (below-reverse (top_below H _))
          c.run_back-top.ensures.1)
          c.layer-2.ensures,
    )
