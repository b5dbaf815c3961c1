-- The distances of a network.
-- Assumes nothing.
use Rattle.std.proofs.Common.{◌≡◌, arith}
use Rattle.counts.specs.Counts.{up}
use Rattle.wirings.proofs.Halves.{step_inside, gap_inside, spaced_as}
use Rattle.wirings.proofs.Net.spacing.Goals as goal

pub step-requires : goal.step-requires
step-requires c = let p = c.requires in omega (arith, step_inside p.1 p.0)

pub gap-requires : goal.gap-requires
gap-requires c = let p = c.requires in
    let k : c.div_ceil-k.result ≡ up c.args.self.size = omega arith in
    rw k (omega (arith, gap_inside p.1 p.0))

pub returns : goal.returns
returns c =
    let k : c.div_ceil-k.result ≡ up c.args.self.size = omega arith in
    spaced_as c.args.self _ _ c.requires.0 c.requires.1.apart c.step.ensures (rw k at c.gap.ensures)
