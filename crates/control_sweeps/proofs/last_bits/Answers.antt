-- The network's pairs, counted by steps.
-- Assumes nothing.
use mathlib.Core.Path.{refl, sym}
use Rattle.control_sweeps.proofs.Places.{reaches_first, taken}
use Rattle.control_sweeps.proofs.last_bits.Goals as goal

pub last_by-requires : goal.last_by-requires
last_by-requires c = let a = c.args in
    let g = c.spacing-step in (
      reaches_first a.net g.result.step g.result.gap a.n a.trails.now g.ensures c.requires.1 c.requires.2 1
          (sym c.if-step-eq1.true),
      c.requires.3,
    )

pub last_by-requires-else-step-eq1 : goal.last_by-requires-else-step-eq1
last_by-requires-else-step-eq1 c = let a = c.args in
    let g = c.spacing-step in (
      reaches_first a.net g.result.step g.result.gap a.n a.trails.now g.ensures c.requires.1 c.requires.2
          g.result.step refl,
      c.requires.3,
    )

pub returns-then-step-eq1 : goal.returns-then-step-eq1
returns-then-step-eq1 c = let a = c.args in
    let g = c.spacing-step in
    taken a.net g.result.step g.result.gap 1 g.ensures (sym c.if-step-eq1.true) a.b a.n
    a.trails.now a.bits.now _ c.last_by.ensures

pub returns-else-step-eq1 : goal.returns-else-step-eq1
returns-else-step-eq1 c = let a = c.args in
    let g = c.spacing-step in
    taken a.net g.result.step g.result.gap g.result.step g.ensures refl a.b a.n a.trails.now a.bits.now _
    c.last_by-else-step-eq1.ensures
