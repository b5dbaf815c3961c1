-- `cmd_show::put_entry` meets its contract.
-- Assumes nothing.
use native.Mathlib.Omega.{arith}
use Rattle.answers.proofs.Putting.{put_then}
use Rattle.cmd_show.proofs.Spacing.{entry_few}
use borrow.Author.Rules.{rules}
use Rattle.cmd_show.proofs.put_entry.Goals as goal

pub put_decimal-requires : goal.put_decimal-requires
put_decimal-requires c = omega (arith, c.requires, c.put_text-a.ensures.place, c.put_text-a.auto, entry_few c.from.result (search rules))

pub returns : goal.returns
returns c =
    (put_then (omega (arith, c.requires)) c.put_text-a.ensures (rw c.from.ensures at c.put_decimal.ensures), omega (arith, c.put_decimal.ensures.place, c.put_text-a.ensures.place, entry_few c.from.result (search rules)))
