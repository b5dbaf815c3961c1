-- An order's bytes: the count, and behind it the entries.
-- Assumes nothing.
use mathlib.Core.List.{List}
use Prim.Native.Nat.{ℕ, ◌≤◌}
use native.Mathlib.Omega.{arith}
use lib.ListN.{length}
use Rattle.answers.specs.Buffers.{Put}
use Rattle.answers.proofs.Putting.{put_then}
use Rattle.numbers.specs.Numbers.{number_bytes, sevens}
use Rattle.numbers.proofs.Numbers.{bytes_few}
use Rattle.rows.specs.Rows.{numbers_bytes}
use Rattle.cmd_draw.specs.Draw.{order_bytes}

module _ {a : List ℕ} (order : List ℕ) (room : 2050 ≤ length a) {r : ℕ} {b : List ℕ} (P : Put a 0 (number_bytes (length order)) r b) where
  pub count_few : r ≤ 2
  count_few = omega (arith, P.place, bytes_few (length order))

  pub order_put : {q : ℕ} {c : List ℕ} → Put b r (numbers_bytes sevens order) q c → Put a 0 (order_bytes order) q c
  unfolding order_bytes numbers_bytes
  order_put Q = put_then (omega (arith, bytes_few (length order))) P Q
