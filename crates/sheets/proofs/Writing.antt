-- How long a sheet gets.
-- Assumes nothing.
use mathlib.Core.Path.{◌≡◌, ap}
use mathlib.Core.List.{List, ◌++◌}
use Prim.Native.Nat.{ℕ, ◌+◌, ◌*◌, ◌≤◌}
use native.Mathlib.Omega.{arith}
use lib.ListN.{length, length-append}
use Rattle.numbers.specs.Numbers.{number_bytes, sevens}
use Rattle.numbers.proofs.Numbers.{bytes_one, bytes_few}
use Rattle.rows.specs.Rows.{numbers_bytes}
use Rattle.rows.proofs.Rows.{bytes_most}
use Rattle.sheets.specs.Sheet.{numbers_for, fourteens, sheet}
use Rattle.sheets.proofs.Unpacking.{fourteens-length}

pub one_byte_lem : length (number_bytes 1) ≡ 1
one_byte_lem = ap length (bytes_one 1 (omega arith))

-- no number takes more than two bytes, and the form number takes one
pub sheet-length : (n : ℕ) (bits : List ℕ) → length (sheet n bits) ≤ 3 + 2 * numbers_for (length bits)
unfolding sheet numbers_bytes
sheet-length n bits =
    let vs = fourteens (numbers_for (length bits)) bits in
    omega (
      arith,
      length-append (number_bytes 1) (number_bytes n ++ numbers_bytes sevens vs),
      length-append (number_bytes n) (numbers_bytes sevens vs),
      one_byte_lem,
      bytes_few n,
      bytes_most sevens (λ v. (bytes_few v).1) vs,
      fourteens-length (numbers_for (length bits)) bits,
    )
