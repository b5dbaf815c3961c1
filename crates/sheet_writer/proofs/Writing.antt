-- What each step of the writer leaves.
-- Assumes nothing.
use mathlib.Core.Path.{◌≡◌, refl, sym, ap, ◌∙◌}
use mathlib.Core.List.{List, [], ◌∷◌, ◌++◌, reverse}
use Prim.Native.Nat.{ℕ, zero, suc, ◌+◌, ◌-◌, ◌*◌, ◌≤◌, ◌<◌, min}
use native.Mathlib.Numerals.{add-one}
use native.Mathlib.Omega.{arith}
use native.Mathlib.Decide.{dec_lt}
use Rattle.std.proofs.lemmas.List.{length-reverse, get_or-reverse}
use lib.ListN.{length, get_or, take, drop, set, length-drop}
use lib.Seq.{take-suc-set, take_all, take_at, drop-cons, drop-drop, drop-length}
use Rattle.answers.specs.Buffers.{Put, overlay}
use Rattle.answers.proofs.Buffers.{overlay-front, overlay-length}
use Rattle.answers.proofs.Putting.{put_then, put_front, put_length}
use Rattle.bits.specs.Bits.{Bits}
use Rattle.numbers.specs.Numbers.{number_bytes, sevens}
use Rattle.numbers.proofs.Numbers.{bytes_few}
use Rattle.rows.specs.Rows.{numbers_bytes}
use Rattle.sheets.specs.Sheet.{bits_number, numbers_for, fourteens, sheet}
use Rattle.sheets.proofs.Unpacking.{bits_drop, number_fits, fourteens-length}
use Rattle.sheets.proofs.Writing.{one_byte_lem}

-- ---- fourteen bits, the last one first

-- the number of the last k bits
abbrev pub last_number : List ℕ → ℕ → ℕ
last_number bits k = bits_number (drop (length bits - k) bits)

pub last_none : (bits : List ℕ) → 0 ≡ last_number bits 0
unfolding bits_number
last_none bits = let z : length bits - 0 ≡ length bits = omega arith in rw (z, drop-length)

pub last_more :
    (bits : List ℕ) (k x : ℕ)
    → (k < length (reverse bits)) × (x ≡ get_or (reverse bits) k x)
    → last_number bits (k + 1) ≡ x + 2 * last_number bits k
unfolding bits_number
last_more bits k x h =
    let short : k < length bits = omega (arith, h.0, length-reverse bits) in
    let m = length bits - (k + 1) in
    let z : length bits - 1 - k ≡ m = omega arith in
    let y : suc m ≡ length bits - k = omega arith in
    let there : x ≡ get_or bits m x = h.1 ∙ get_or-reverse bits k x short ∙ ap (λ i. get_or bits i x) z in
    let c : drop m bits ≡ x ∷ drop (length bits - k) bits =
    drop-cons bits m x (omega arith)
    ∙ ap (λ (n : ℕ). get_or bits m x ∷ drop n bits) y
    ∙ ap (λ (u : ℕ). u ∷ drop (length bits - k) bits) (sym there)
    in
    rw c

pub last_fits : (bits : List ℕ) (k : ℕ) → k ≤ length bits → length bits ≤ 14 → Bits bits → last_number bits k < 16384
last_fits bits k s l h =
    number_fits (drop (length bits - k) bits) (bits_drop (length bits - k) bits h) (omega (arith, length-drop (length bits - k) bits))

pub last_all : (bits : List ℕ) (k : ℕ) → k ≡ length (reverse bits) → last_number bits k ≡ bits_number bits
last_all bits k e = let z : length bits - k ≡ 0 = omega (arith, e, length-reverse bits) in rw z

-- ---- all the fourteens

-- one number more: that of the fourteen bits from 14 * j on
pub fourteens_more : (j : ℕ) (bits : List ℕ) → fourteens (suc j) bits ≡ fourteens j bits ++ (bits_number (take 14 (drop (j * 14) bits)) ∷ [])
unfolding fourteens
fourteens_more zero bits = refl
fourteens_more (suc j) bits =
    let z : 14 + j * 14 ≡ suc j * 14 = omega arith in
    ap (λ ns. bits_number (take 14 bits) ∷ ns)
    (fourteens_more j (drop 14 bits) ∙ ap (λ bs. fourteens j (drop 14 bits) ++ (bits_number (take 14 bs) ∷ [])) (drop-drop (j * 14) 14 bits ∙ ap (λ m. drop m bits) z))

-- .. or of those that are left
least_taken : (bits : List ℕ) → take (min 14 (length bits)) bits ≡ take 14 bits
least_taken bits = elim (dec_lt 14 (length bits)) [
  | yes h ↦ let z : min 14 (length bits) ≡ 14 = omega arith in rw z
  | no h ↦ take_all (min 14 (length bits)) bits (omega arith) ∙ sym (take_all 14 bits (omega arith))
]

pub gathered_more :
    (bits row : List ℕ) (j v end : ℕ)
    → j < length row
    → j * 14 ≤ length bits
    → end ≡ min (length bits) (j * 14 + 14)
    → v ≡ bits_number (take (end - j * 14) (drop (j * 14) bits))
    → take j row ≡ fourteens j bits
    → take (j + 1) (set row j v) ≡ fourteens (j + 1) bits
gathered_more bits row j v end l w e n R =
    let part = drop (j * 14) bits in
    let z : end - j * 14 ≡ min 14 (length part) = omega (arith, length-drop (j * 14) bits) in
    let there : v ≡ bits_number (take 14 part) = n ∙ ap (λ m. bits_number (take m part)) z ∙ ap bits_number (least_taken part) in
    rw add-one
    (take-suc-set row j v l ∙ rw R (ap (λ x. fourteens j bits ++ (x ∷ [])) there) ∙ sym (fourteens_more j bits))

-- the row that was gathered, whatever stands behind it
pub row_made : (bits row rest : List ℕ) {k m : ℕ} → m ≡ k → row ≡ fourteens m bits → take k (row ++ rest) ≡ fourteens k bits
row_made bits row rest {k} e r =
    take_at row rest k (ap length r ∙ fourteens-length _ bits ∙ e) ∙ r ∙ ap (λ i. fourteens i bits) e

-- ---- the sheet

pub sheet_put :
    {a : List ℕ} {r : ℕ} {b : List ℕ} {q : ℕ} {c : List ℕ} {t : ℕ} {d : List ℕ} {row : List ℕ} (n : ℕ) (bits : List ℕ)
    → row ≡ fourteens (numbers_for (length bits)) bits
    → 1321 ≤ length a
    → Put a 0 (number_bytes 1) r b
    → Put b r (number_bytes n) q c
    → Put c q (numbers_bytes sevens row) t d
    → Put a 0 (sheet n bits) t d
unfolding sheet numbers_bytes
sheet_put {a} {r} {b} n bits e h P Q R =
    let room : r + length (number_bytes n) ≤ length b = omega (arith, P.place, one_byte_lem, bytes_few n, ap length P.buffer, overlay-length a 0 (number_bytes 1) (omega (arith, one_byte_lem))) in
    put_then (omega (arith, one_byte_lem)) P (put_then room Q (rw e at R))

-- .. and copied over the front of the output
pub sheet_copied :
    {a bytes b : List ℕ} {r : ℕ} (out : List ℕ)
    → Put a 0 bytes r b
    → take r b ++ drop r out ≡ overlay out 0 bytes
sheet_copied {bytes = bytes} out P = rw (put_front P, put_length P) (sym (overlay-front out bytes))
