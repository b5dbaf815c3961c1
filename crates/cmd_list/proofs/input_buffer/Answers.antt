-- `cmd_list::input_buffer` meets its contract.
-- Assumes nothing.
use mathlib.Core.Path.{refl, sym}
use Prim.Native.Nat.{ℕ}
use lib.ListN.{length-replicate}
use Rattle.cmd_list.specs.Listing.{list_room}
use Rattle.cmd_list.proofs.input_buffer.Goals as goal

pub returns : goal.returns
returns c = (sym (length-replicate {A = ℕ} list_room 0), refl)
