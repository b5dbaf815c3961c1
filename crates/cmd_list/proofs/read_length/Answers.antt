-- `cmd_list::read_length` meets its contract.
-- Assumes nothing.
use mathlib.Core.Path.{sym}
use Rattle.std.proofs.lemmas.Result.{err_from_is_err_and}
use Rattle.numbers.proofs.Numbers.{reads, refused}
use Rattle.cmd_list.proofs.Asking.{number_no, too_long_no, surplus_no, length_yes}
use Rattle.cmd_list.proofs.read_length.Goals as goal

pub returns-in_err-n : goal.returns-in_err-n
returns-in_err-n c =
    let p = err_from_is_err_and c.from_residual.result c.from_residual.ensures.1 in
    rw (p.1, p.2) (number_no _ (refused _ 0 _ c.in_err-n.ensures))

pub returns-then-n-gt6 : goal.returns-then-n-gt6
returns-then-n-gt6 c = rw c.of.ensures (too_long_no _ (reads _ 0 _ c.in_ok-n.ensures) c.if-n-gt6.true)

pub returns-then-next-input : goal.returns-then-next-input
returns-then-next-input c = rw c.at.ensures (surplus_no _ (reads _ 0 _ c.in_ok-n.ensures) c.if-n-gt6.false c.if-next-input.true)

pub returns : goal.returns
returns c =
    let N = reads _ 0 _ c.in_ok-n.ensures in
    (length_yes _ N c.if-n-gt6.false c.if-next-input.false, sym N.value)
