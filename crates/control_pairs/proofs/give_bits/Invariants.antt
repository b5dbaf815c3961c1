-- The first i bits are given.
-- Assumes nothing.
use mathlib.Core.Path.{◌≡◌}
use Rattle.control_pairs.specs.Pairs.{bits_in}
use Rattle.control_pairs.proofs.give_bits.Given as goal

abbrev pub invariant-loop-i : goal.invariant-loop-i
invariant-loop-i l = l.bits ≡ bits_in l.b l.i l.pairs l.initial.bits
