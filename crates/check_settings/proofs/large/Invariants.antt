-- `check_settings::large`: v stays below 1,025, and each turn pushes one byte or two.
-- Assumes nothing.
use Rattle.std.proofs.Common.{◌+◌, ◌*◌, ◌<◌, ◌≤◌, vec_len}
use Rattle.check_settings.proofs.large.Given as goal

abbrev pub invariant-loop-i : goal.invariant-loop-i
invariant-loop-i l = (l.v < 1025) × ((1 ≤ vec_len l.input) × (vec_len l.input ≤ 2 + 2 * l.i))
