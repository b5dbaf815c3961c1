-- 02, F-3: 'Owners ask to see every order treated'; 'The call writes the log that set writes for that order'.
-- Assumes nothing: these are definitions.
use Rattle.std.specs.Prelude.{◌≡◌, List, [], ◌∷◌, ℕ, ◌≤◌, length}
use Rattle.answers.specs.Answers.{accepted}
use Rattle.answers.specs.Buffers.{overlay}
use Rattle.counts.specs.Counts.{W, E}
use Rattle.network.specs.Wiring.{paper}
use Rattle.network.specs.Network.{network}
use Rattle.canonical.specs.Rule.{Canonical}
use Rattle.wirings.specs.declared.Topology.TheVariants.{Paper}
use Rattle.orders_listed.specs.Ranks.{order_at, ListedOnce}
use Rattle.claims.specs.Carrying.{RoomToSet}
use Rattle.claims.specs.Calls.{set, rank, described, outcome_of, Accepted, count_of, written}

-- of one accepted call for the r-th order
pub record AsSet (n r : ℕ) (list bits log : List ℕ) : Type 0 where
  -- the order stands over the front of its list
  pub listed : (described (rank n r list bits log)).beside_left ≡ overlay list 0 (order_at n r) ∷ []
  -- lent the same bits and log, set in the paper's wiring is accepted on that order and comes to the same
  pub set_accepted : Accepted (set Paper (order_at n r) bits log)
  pub same_outcome : outcome_of (rank n r list bits log) ≡ outcome_of (set Paper (order_at n r) bits log)
  -- lent any others and accepted, set writes the same log, reports the same count and leaves the same bits
  pub same_log : (bits' log' : List ℕ) → Accepted (set Paper (order_at n r) bits' log')
      → written (rank n r list bits log) ≡ written (set Paper (order_at n r) bits' log')
  pub same_count : (bits' log' : List ℕ) → Accepted (set Paper (order_at n r) bits' log')
      → count_of (rank n r list bits log) ≡ count_of (set Paper (order_at n r) bits' log')
  pub same_bits : (bits' log' : List ℕ) → Accepted (set Paper (order_at n r) bits' log')
      → (outcome_of (rank n r list bits log)).buffer ≡ (outcome_of (set Paper (order_at n r) bits' log')).buffer

-- memory lent for an order of n places: room for it, a byte for each bit, and set's log
pub record RoomToRank (n : ℕ) (list bits log : List ℕ) : Type 0 where
  pub list_room : n ≤ length list
  pub bit_count : length bits ≡ W n
  pub log_room : RoomToSet n log

-- an order is treated: exactly one number gives it, and the call for that number is accepted, and leaves the order and its
-- house setting
pub record Treated (n : ℕ) (order : List ℕ) : Type 0 where
  pub once : ListedOnce n order
  pub call_accepted : (list bits log : List ℕ) → RoomToRank n list bits log
      → (outcome_of (rank n once.rank list bits log)).answer ≡ accepted (E n)
  pub order_left : (list bits log : List ℕ) → RoomToRank n list bits log
      → (described (rank n once.rank list bits log)).beside_left ≡ overlay list 0 order ∷ []
  pub setting_left : (list bits log : List ℕ) → RoomToRank n list bits log
      → Canonical paper (network n) order (outcome_of (rank n once.rank list bits log)).buffer
