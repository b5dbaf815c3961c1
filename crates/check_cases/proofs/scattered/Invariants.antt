-- `check_cases::scattered` meets its contract.
-- Assumes nothing.
use Rattle.std.proofs.Common.{◌≡◌, length, vec_len}
use Rattle.check_cases.proofs.scattered.Given as goal

abbrev pub invariant-loop-from : goal.invariant-loop-from
invariant-loop-from l = vec_len l.away ≡ length l.blocks
