-- Neighbours lie 1 apart.
-- Assumes nothing.
use mathlib.Core.Path.{subst, sym}
use Prim.Native.Nat.{◌+◌, ◌*◌}
use Rattle.control_rows.specs.Rows.{Gathered}
use Rattle.control_rows.proofs.gather.Goals as goal

pub returns-then-apart-eq1 : goal.returns-then-apart-eq1
returns-then-apart-eq1 c = let a = c.args in
    let x = c.fill in (
      subst (λ x. Gathered (λ i. a.o + i * x) a.m a.xs.now c.fill.new.row) (sym c.if-apart-eq1.true)
          x.ensures.0,
      x.ensures.1,
    )
