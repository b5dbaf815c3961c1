-- `check_cases::numbered` meets its contract.
-- Assumes nothing.
use Rattle.std.proofs.Common.{◌≡◌, vec_len}
use Rattle.check_cases.proofs.numbered.Given as goal

abbrev pub invariant-loop-i : goal.invariant-loop-i
invariant-loop-i l = vec_len l.words ≡ l.i
