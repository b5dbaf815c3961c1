-- Writing a number: what each return of `put_number` leaves.
-- Assumes nothing.
use mathlib.Core.Path.{refl, sym}
use mathlib.Core.List.{List, [], ◌∷◌}
use Prim.Native.Nat.{ℕ, ◌+◌, ◌/◌, ◌%◌, ◌≤◌, ◌<◌}
use native.Mathlib.Omega.{arith}
use lib.ListN.{length, set}
use Rattle.answers.specs.Buffers.{Put}
use Rattle.answers.proofs.Buffers.{overlay-one, overlay_more}
use Rattle.numbers.specs.Numbers.{number_bytes}
use Rattle.numbers.proofs.Numbers.{bytes_one, bytes_two}

pub put_one : (buf : List ℕ) (at v : ℕ) → v < 128 → at < length buf → Put buf at (number_bytes v) (at + 1) (set buf at v)
put_one buf at v h l = rw (bytes_one v h) (record { place = refl; buffer = sym (overlay-one buf at v l) })

pub put_two :
    (buf : List ℕ) (at v : ℕ)
    → 128 ≤ v
    → at + 1 < length buf
    → Put buf at (number_bytes v) (at + 2) (set (set buf at (v % 128 + 128)) (at + 1) (v / 128))
put_two buf at v h l =
    let a = v % 128 + 128 in
    rw (bytes_two v h)
    (record {
      place = refl;
      buffer = rw (← overlay-one buf at a (omega arith)) (overlay_more buf at (a ∷ []) (v / 128) l);
    })
