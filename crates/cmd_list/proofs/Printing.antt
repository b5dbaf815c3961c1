-- The lines of the orders, put one behind another.
-- Assumes nothing.
use mathlib.Core.Path.{◌≡◌, refl, ◌∙◌}
use mathlib.Core.List.{List}
use Prim.Native.Nat.{ℕ, ◌+◌, ◌≤◌, ◌<◌}
use native.Mathlib.Numerals.{add-one}
use native.Mathlib.Omega.{arith}
use lib.ListN.{length}
use Rattle.answers.specs.Buffers.{Put}
use Rattle.answers.proofs.Putting.{put_none, put_then}
use Rattle.orders_listed.specs.Ranks.{factorial}
use Rattle.orders_listed.proofs.OrderAt.{factorial_small}
use Rattle.cmd_list.specs.Listing.{order_line, order_lines, orders_of}
use Rattle.cmd_list.proofs.Order.{lines_fit}

-- what the loop keeps: the lines of the first r orders are put
pub record Printing (n : ℕ) (before out : List ℕ) (at r : ℕ) : Type 0 where
  pub put : Put before 0 (order_lines n r) at out
  pub same : length out ≡ length before
  pub within : r ≤ factorial n

pub printing_starts : (n : ℕ) (before : List ℕ) → Printing n before before 0 0
unfolding order_lines
printing_starts n before = record { put = put_none before 0; same = refl; within = omega arith }

module _ {n : ℕ} {before out : List ℕ} {at r : ℕ} (L : Printing n before out at r) where
  module _ (few : n ≤ 6) (big : 17280 ≤ length before) (h : r < factorial n) where
    pub order_room_lem : at + 24 ≤ length out
    order_room_lem =
        omega (arith, L.put.place, L.same, lines_fit n few r L.within, factorial_small n few)

    pub printing_more :
        {e : ℕ} {after : List ℕ}
        → Put out at (order_line n r) e after
        → length after ≡ length out
        → Printing n before after e (r + 1)
    unfolding order_lines
    printing_more P k =
        record {
          put = rw add-one (put_then (omega (arith, L.put.place, L.same, order_room_lem)) L.put P);
          same = k ∙ L.same;
          within = omega arith;
        }

  pub printing_ends : factorial n ≤ r → Put before 0 (orders_of n) at out
  printing_ends h = rw (let e : factorial n ≡ r = omega (arith, L.within) in e) L.put
