-- `tally::words` meets its contract.
-- Assumes nothing.
use Rattle.std.proofs.Common.{◌≡◌, ◌+◌}
use Rattle.tally.specs.Tallies.{after}
use Rattle.tally.proofs.First.{First}
use Rattle.tally.proofs.words.Given as goal

abbrev pub invariant-loop-word : goal.invariant-loop-word
invariant-loop-word l = (l.x ≡ after l.word-index l.fn.seed) × First (λ j. after (j + 1) l.fn.seed) l.word-index l.word-items
