-- The loop over the parts of 32 bytes. Its invariant: the first j parts of both blocks are switched.
-- Assumes nothing.
use Rattle.std.proofs.Common.{◌≡◌, ◌*◌, length}
use Rattle.exchange_words.specs.Bytes.{bytes_switched}
use Rattle.exchange_blocks.proofs.exchange_whole.Given as goal

abbrev pub invariant-loop-j : goal.invariant-loop-j
invariant-loop-j l =
    (length l.blocks ≡ length l.initial.blocks) × (l.blocks ≡ bytes_switched l.a l.gap l.s (32 * l.j) l.initial.blocks)
