-- The network's pairs, counted by steps.
-- Assumes nothing.
use mathlib.Core.Path.{refl, sym}
use Rattle.control_sweeps.proofs.Places.{reaches, acted}
use Rattle.control_sweeps.proofs.act_on.Goals as goal

pub act_by-requires : goal.act_by-requires
act_by-requires c = let a = c.args in
    let g = c.spacing-spacing in
    let r = reaches a.net g.result.step g.result.gap a.n in (
      r a.vals.now g.ensures c.requires.1 c.requires.3 1 (sym c.if-step-eq1.true),
      r a.trails.now g.ensures
          c.requires.2 c.requires.3 1 (sym c.if-step-eq1.true),
      c.requires.4,
      c.requires.5,
    )

pub act_by-requires-else-step-eq1 : goal.act_by-requires-else-step-eq1
act_by-requires-else-step-eq1 c = let a = c.args in
    let g = c.spacing-spacing in
    let r = reaches a.net g.result.step g.result.gap a.n in (
      r a.vals.now g.ensures c.requires.1 c.requires.3 g.result.step refl,
      r a.trails.now g.ensures c.requires.2
          c.requires.3 g.result.step refl,
      c.requires.4,
      c.requires.5,
    )

pub returns-then-step-eq1 : goal.returns-then-step-eq1
returns-then-step-eq1 c = let a = c.args in
    let g = c.spacing-spacing in
    let x = c.act_by in
    let f = acted a.net g.result.step g.result.gap 1 g.ensures (sym c.if-step-eq1.true) a.bits.now a.b a.n in
    (f a.vals.now _ x.ensures.0, f a.trails.now _ x.ensures.1)

pub returns-else-step-eq1 : goal.returns-else-step-eq1
returns-else-step-eq1 c = let a = c.args in
    let g = c.spacing-spacing in
    let x = c.act_by-else-step-eq1 in
    let f = acted a.net g.result.step g.result.gap g.result.step g.ensures refl a.bits.now a.b a.n in
    (f a.vals.now _ x.ensures.0, f a.trails.now _ x.ensures.1)
