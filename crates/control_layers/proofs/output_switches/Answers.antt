-- The bits are written, and the switches act under them.
-- Assumes nothing.
use native.Mathlib.Omega.{arith}
use borrow.Author.Rules.{rules}
use Rattle.control_sweeps.proofs.Bounds.{each_below}
use Rattle.control_layers.proofs.output_switches.Goals as goal

pub act_on-requires : goal.act_on-requires
act_on-requires c = (
  c.requires.0,
  c.requires.1,
  c.requires.2,
  omega arith,
  search rules,
  rw c.last_bits.ensures
      (each_below 2 _ _ _ c.args.bits.now c.requires.4 (λ i x h. omega arith)),
)
