-- 02, F-6: 'A converter takes a setting of either wiring and gives the other wiring's house setting of the same order.'
-- Assumes nothing: these are definitions.
use Rattle.std.specs.Prelude.{◌≡◌, List, ℕ, length}
use Rattle.answers.specs.Answers.{accepted}
use Rattle.answers.specs.Outcomes.{outcome}
use Rattle.counts.specs.Counts.{W}
use Rattle.network.specs.Network.{network}
use Rattle.network.specs.Blocks.{order_of}
use Rattle.permutation.specs.Permutations.{IsPermutation}
use Rattle.canonical.specs.Rule.{Canonical}
use Rattle.wirings.specs.declared.Topology.{Topology}
use Rattle.wirings.specs.Nets.{wiring_of}
use Rattle.convert.specs.Calls.{across, convert_call}
use Rattle.claims.specs.Calls.{Direction, Call, move, outcome_of, Accepted}
use Rattle.claims.specs.Carrying.{Setting, Filled, RoomToMove}

-- the order that a setting carries in a wiring; and the house setting, in a wiring, of an order
abbrev pub order_in : Topology → ℕ → List ℕ → List ℕ
order_in t n bits = order_of (wiring_of t) n bits

abbrev pub House : Topology → ℕ → List ℕ → List ℕ → Type 0
House t n order bits = Canonical (wiring_of t) (network n) order bits

-- two calls that are accepted and leave the same blocks
pub record SameBlocks (a b : Call) : Type 0 where
  pub first : Accepted a
  pub second : Accepted b
  pub blocks : (outcome_of a).buffer ≡ (outcome_of b).buffer

-- of an accepted call, where `given` is any setting, the house setting or another
pub record Converted (from : Topology) (n : ℕ) (given out left : List ℕ) : Type 0 where
  -- it reports no entries, and leaves `left` in `out`, whatever stood there
  pub leaves : convert_call from n given out ≡ outcome (accepted 0) left
  pub left_setting : Setting n left
  -- that is the other wiring's house setting of the order that the given one carries, and no other setting is
  pub house : House (across from) n (order_in from n given) left
  pub only : (bits : List ℕ) → House (across from) n (order_in from n given) bits → bits ≡ left
  -- in the other wiring it carries that order
  pub same_order : order_in (across from) n left ≡ order_in from n given
  -- a house setting, of whatever order, is converted back into itself
  pub there_and_back : (order back : List ℕ) → IsPermutation n order → House from n order given → length back ≡ W n
      → convert_call (across from) n left back ≡ outcome (accepted 0) given
  -- mixing, and returning, by the given setting in its wiring and by this one in the other leaves the same blocks
  pub same_blocks : (d : Direction) (width : ℕ) (blocks log other : List ℕ) → Filled n width blocks
      → RoomToMove n log → RoomToMove n other
      → SameBlocks (move from d n width blocks given log) (move (across from) d n width blocks left other)
