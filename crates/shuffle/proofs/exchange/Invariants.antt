-- `shuffle::exchange` meets its contract.
-- Assumes nothing.
use mathlib.Core.Path.{◌≡◌}
use Rattle.shuffle.specs.Shuffled.{stepped}
use Rattle.shuffle.proofs.exchange.Given as goal

abbrev pub invariant-loop-i : goal.invariant-loop-i
invariant-loop-i l = l.out ≡ stepped l.i l.words l.initial.out
