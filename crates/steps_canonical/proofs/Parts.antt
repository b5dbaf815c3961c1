-- Parts of a list of bits: a part of parts, and parts that two lists share.
-- Assumes nothing.
use mathlib.Core.Path.{◌≡◌, sym, ap, ◌∙◌}
use mathlib.Core.List.{List, ◌++◌}
use Prim.Native.Nat.{ℕ, ◌+◌, ◌≤◌, ◌<◌}
use native.Mathlib.Omega.{arith}
use lib.ListN.{length, get_or, take, drop, length-drop}
use lib.Seq.{get_or-take, get_or-drop, length-take-le, take-add, drop-drop, ext_get_or}

-- n bits from position b on
abbrev pub part : ℕ → ℕ → List ℕ → List ℕ
part b n bits = take n (drop b bits)

pub length_part : (b n : ℕ) (bits : List ℕ) → b + n ≤ length bits → length (part b n bits) ≡ n
length_part b n bits h = length-take-le n (drop b bits) (rw length-drop (omega arith))

pub part_at : (b n : ℕ) (bits : List ℕ) (i : ℕ) → i < n → get_or (part b n bits) i 0 ≡ get_or bits (b + i) 0
part_at b n bits i l = get_or-take n (drop b bits) i 0 l ∙ get_or-drop b bits i 0

pub part_split : (b n r : ℕ) (bits : List ℕ) → part b (n + r) bits ≡ part b n bits ++ part (b + n) r bits
part_split b n r bits = take-add n r (drop b bits) ∙ ap (λ l. part b n bits ++ take r l) (drop-drop n b bits)

pub same_part : (b n : ℕ) (xs ys : List ℕ) → b + n ≤ length xs → length ys ≡ length xs
    → ((q : ℕ) → b ≤ q → q < b + n → get_or ys q 0 ≡ get_or xs q 0) → part b n ys ≡ part b n xs
same_part b n xs ys h e f =
    ext_get_or 0 (part b n ys) (part b n xs)
    (length_part b n ys (omega arith) ∙ sym (length_part b n xs h))
    (λ i l.
    let i< : i < n = omega (arith, length_part b n ys (omega arith)) in
    part_at b n ys i i< ∙ f (b + i) (omega arith) (omega arith) ∙ sym (part_at b n xs i i<))
