-- `cmd_arguments::decimal` meets its contract.
-- Assumes nothing.
use mathlib.Core.Path.{refl}
use native.Mathlib.Omega.{arith}
use Rattle.cmd_text.proofs.Lines.{empty_is, empty_not}
use Rattle.cmd_arguments.proofs.Digits.{none, starts, ends, below, above, more}
use Rattle.cmd_arguments.proofs.decimal.Goals as goal

pub returns-then-is_empty : goal.returns-then-is_empty
returns-then-is_empty c = none c.args.text.now (empty_is c.is_empty.ensures c.if-is_empty.true)

pub loop-b-init : goal.loop-b-init
loop-b-init c = starts c.args.text.now (empty_not c.is_empty.ensures c.if-is_empty.false)

pub returns-in_default : goal.returns-in_default
returns-in_default c = below c.args.text.now c.loop-b.invariant c.loop-b-test.true refl (omega arith)

pub returns-in_default-2 : goal.returns-in_default-2
returns-in_default-2 c = above c.args.text.now c.loop-b.invariant c.loop-b-test.true refl (omega arith) (omega arith)

pub loop-b-preserved : goal.loop-b-preserved
loop-b-preserved c =
    more c.args.text.now c.loop-b.invariant c.loop-b-test.true refl (omega arith) (omega arith) (rw (← c.from.ensures) c.min-v.ensures)

pub returns : goal.returns
returns c = ends c.args.text.now c.loop-b.invariant c.loop-b-test.false
