-- `numbers::put_number` meets its contract.
-- Assumes nothing.
use native.Mathlib.Omega.{arith}
use lib.ListN.{length-set}
use Rattle.numbers.proofs.Writing.{put_one, put_two}
use Rattle.numbers.proofs.put_number.Goals as goal

pub returns-then-v-lt128 : goal.returns-then-v-lt128
returns-then-v-lt128 c = put_one _ _ _ c.if-v-lt128.true (omega arith)

pub bounds-buf-second : goal.bounds-buf-second
bounds-buf-second c = simp length-set (omega arith)

pub returns : goal.returns
returns c = put_two _ _ _ c.if-v-lt128.false (omega arith)
