-- What the loop of `put_row` keeps, for every form of numbers.
-- Assumes nothing.
use mathlib.Core.Path.{◌≡◌, refl, ap, ◌∙◌}
use mathlib.Core.List.{List, [], ◌∷◌, ◌++◌}
use Prim.Native.Nat.{ℕ, ◌+◌, ◌*◌, ◌≤◌, ◌<◌}
use native.Mathlib.Numerals.{add-one}
use native.Mathlib.Omega.{arith}
use lib.ListN.{length, get_or, take}
use lib.Seq.{take-suc, take_all}
use Rattle.answers.specs.Buffers.{Put}
use Rattle.answers.proofs.Putting.{put_none, put_then}
use Rattle.numbers.specs.Numbers.{NumberForm}
use Rattle.rows.specs.Rows.{numbers_bytes}
use Rattle.rows.proofs.Rows.{bytes_more}

pub record Entering (form : NumberForm) (row before : List ℕ) (start : ℕ) (buf : List ℕ) (at j : ℕ) : Type 0 where
  pub same : length buf ≡ length before
  pub room : at ≤ start + 2 * j
  pub put : Put before start (numbers_bytes form (take j row)) at buf

pub entering_starts : (form : NumberForm) (row before : List ℕ) (start : ℕ) → Entering form row before start before start 0
unfolding numbers_bytes
entering_starts form row before start = record { same = refl; room = omega arith; put = put_none before start }

module _
    (form : NumberForm) (row before : List ℕ) (start : ℕ) {buf : List ℕ} {at j : ℕ} (E : Entering form row before start buf at j)
  where
    pub entering_more :
        {v r : ℕ} {after : List ℕ}
        → length (form.bytes v) ≤ 2
        → j < length row
        → start + 2 * length row ≤ length before
        → v ≡ get_or row j 0
        → length after ≡ length buf
        → Put buf at (form.bytes v) r after
        → Entering form row before start after r (j + 1)
    entering_more {v} few h g e n P =
        let more : take (j + 1) row ≡ take j row ++ (v ∷ []) = rw (e, add-one) (take-suc row j 0 h) in
        let all : numbers_bytes form (take (j + 1) row) ≡ numbers_bytes form (take j row) ++ form.bytes v =
        ap (numbers_bytes form) more ∙ bytes_more form (take j row) v
        in
        record {
          same = n ∙ E.same;
          room = omega (arith, P.place, few, E.room);
          put = rw all (put_then (omega (arith, E.put.place, E.room)) E.put P);
        }

    pub entering-ends : length row ≤ j → Put before start (numbers_bytes form row) at buf
    entering-ends h = rw (take_all j row h) at E.put
