-- The loop over the bytes of two parts. Its invariant: the first j of both arrays are switched.
-- Assumes nothing.
use Rattle.exchange_blocks.proofs.Parts.{Halfway}
use Rattle.exchange_blocks.proofs.exchange32.Given as goal

abbrev pub invariant-loop-j : goal.invariant-loop-j
invariant-loop-j l = Halfway l.s l.j l.initial.x l.initial.y l.x l.y
