-- One row, and the rows of the first places.
-- Assumes nothing.
use mathlib.Core.Path.{◌≡◌, refl, ◌∙◌}
use mathlib.Core.List.{List, ◌++◌}
use Prim.Native.Nat.{ℕ, zero, suc, ◌+◌, ◌≤◌, ◌<◌}
use native.Mathlib.Numerals.{add-one}
use native.Mathlib.Omega.{arith}
use native.Mathlib.Decide.{dec_lt}
use lib.ListN.{length, length-append}
use Rattle.answers.specs.Buffers.{Put}
use Rattle.answers.proofs.Putting.{put_none, put_then}
use Rattle.cmd_picture.specs.Inner.{row_in, rows_in}

-- ---- rows

module _ (m : ℕ) (log bits : List ℕ) where
  rows_more : (place : ℕ) → rows_in m log bits (place + 1) ≡ rows_in m log bits place ++ row_in m log bits place
  unfolding rows_in
  rows_more place = rw (add-one place)

  -- a row, and those before it, are among the first n
  rows_within : (n place : ℕ) → place < n → length (rows_in m log bits place) + length (row_in m log bits place) ≤ length (rows_in m log bits n)
  unfolding rows_in
  rows_within zero place h = absurd (omega arith)
  rows_within (suc n) place h = go (dec_lt place n) (rows_within n place)
    where
      go :
          Dec (place < n)
          → (place < n → length (rows_in m log bits place) + length (row_in m log bits place) ≤ length (rows_in m log bits n))
          → length (rows_in m log bits place) + length (row_in m log bits place) ≤ length (rows_in m log bits n ++ row_in m log bits n)
      go (yes l) before = omega (arith, before l, length-append (rows_in m log bits n) (row_in m log bits n))
      go (no l) before =
          let e : place ≡ n = omega arith in
          rw e (omega (arith, length-append (rows_in m log bits n) (row_in m log bits n)))

  -- what the loop of `put_rows` keeps
  pub record Rowing (n : ℕ) (before : List ℕ) (at : ℕ) (out : List ℕ) (end place : ℕ) : Type 0 where
    pub within : place ≤ n
    pub same : length out ≡ length before
    pub put : Put before at (rows_in m log bits place) end out

  pub rowing_starts : (n : ℕ) (before : List ℕ) (at : ℕ) → Rowing n before at before at 0
  unfolding rows_in
  rowing_starts n before at = record { within = omega arith; same = refl; put = put_none before at }

  module _ (n : ℕ) (before : List ℕ) (at : ℕ) (room : at + length (rows_in m log bits n) ≤ length before) {out : List ℕ} {end place : ℕ} (R : Rowing n before at out end place) where
    pub row_room : place < n → end + length (row_in m log bits place) ≤ length out
    row_room h = omega (arith, R.put.place, R.same, rows_within n place h)

    pub rowing_more : {r : ℕ} {after : List ℕ} → place < n → length after ≡ length out → Put out end (row_in m log bits place) r after → Rowing n before at after r (place + 1)
    rowing_more h e P =
        record {
          within = omega arith;
          same = e ∙ R.same;
          put = rw (rows_more place) (put_then (omega (arith, row_room h, R.put.place, R.same)) R.put P);
        }
