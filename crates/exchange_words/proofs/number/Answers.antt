-- The bytes, and zeros behind them, as a number.
-- Assumes nothing.
use Rattle.std.proofs.Common.{◌∙◌, arith}
use Rattle.exchange_words.proofs.Words.{number_behind}
use Rattle.exchange_words.proofs.number.Goals as goal

pub returns : goal.returns
returns g c = let a = c.args in
    c.from_le_bytes.ensures ∙ number_behind g.row.N _ a.at a.bytes.now c.copy_from_slice.new.self (omega arith)
    c.requires.0 c.requires.1 c.copy_from_slice.ensures.after
