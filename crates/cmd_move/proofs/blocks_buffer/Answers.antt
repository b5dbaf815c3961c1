-- `cmd_move::blocks_buffer` meets its contract.
-- Assumes nothing.
use mathlib.Core.Path.{refl, sym}
use Prim.Native.Nat.{ℕ}
use lib.ListN.{length-replicate}
use Rattle.cmd_move.specs.Calls.{blocks_room}
use Rattle.cmd_move.proofs.blocks_buffer.Goals as goal

pub returns : goal.returns
returns c = (sym (length-replicate {A = ℕ} blocks_room 0), refl)
