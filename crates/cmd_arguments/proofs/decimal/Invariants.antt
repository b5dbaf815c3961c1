-- `cmd_arguments::decimal` meets its contract.
-- Assumes nothing.
use Rattle.cmd_arguments.proofs.Digits.{Reading}
use Rattle.cmd_arguments.proofs.decimal.Given as goal

abbrev pub invariant-loop-b : goal.invariant-loop-b
invariant-loop-b l = Reading l.text l.v l.b-index
