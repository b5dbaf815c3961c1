-- `cmd_text::put_decimal` meets its contract.
-- Assumes nothing.
use Rattle.cmd_text.proofs.+put_decimal.Given as goal

abbrev pub decreases-put_decimal : goal.decreases-put_decimal
decreases-put_decimal l = l.v
