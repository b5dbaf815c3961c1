-- The network by its numbers.
-- Assumes nothing.
use mathlib.Core.Path.{subst, sym}
use Rattle.wirings.specs.declared.Net.{Net}
use Rattle.wirings.proofs.Halves.{net_as}
use Rattle.control_sweeps.specs.Tables.{Joined}
use Rattle.control_sweeps.proofs.join_values.Goals as goal

pub returns-then-apart-eq1 : goal.returns-then-apart-eq1
returns-then-apart-eq1 c = let a = c.args in
    let e = net_as a.net 1 c.if-apart-eq1.true in
    let x = c.join_by in
    subst (λ (n : Net). Joined n a.k a.vals.now a.trails.now x.new.vals x.new.trails) (sym e) x.ensures
