-- The bits in numbers: where each stands, the fill bits, and that fourteens give back their bits.
-- Assumes nothing.
use mathlib.Core.Path.{◌≡◌, refl, sym, ap, ◌∙◌}
use mathlib.Core.Bool.{Bool, true, false, ◌&&◌}
use mathlib.Core.List.{List, [], ◌∷◌, ◌++◌, append_assoc, append-nil}
use Prim.Native.Nat.{ℕ, zero, suc, ◌+◌, ◌-◌, ◌*◌, ◌/◌, ◌%◌, ◌^◌, ◌≤◌, ◌<◌}
use native.Mathlib.Nat.{not-suc-le-zero, pow-suc}
use native.Mathlib.Omega.{arith}
use native.Mathlib.Decide.{dec_lt}
use lib.Dec.{eqb}
use lib.Pow.{shr-shr, pow_mono}
use lib.ListN.{length, get_or, take, drop, replicate, length-append, length-take, length-drop, replicate-append-replicate, take-append-drop, drop_of_length-le, get_or-append}
use lib.Seq.{take_all, take_at, drop_at, drop-append-add, get_or-append-add, get_or-drop, split_at}
use borrow.Author.Tests.{ne_eqb, eqb-true}
use Rattle.bits.specs.Bits.{Bits}
use Rattle.rows.specs.Rows.{Fourteens}
use Rattle.sheets.specs.Sheet.{bits_number, fourteens, numbers_for}
use Rattle.sheets.specs.Reading.{low_bits, bits_in, all_zero}

-- ---- one number

low-length : (c v : ℕ) → length (low_bits c v) ≡ c
unfolding low_bits
low-length zero v = refl
low-length (suc c) v = ap suc (low-length c (v / 2))

low-at : (c v i : ℕ) → i < c → get_or (low_bits c v) i 0 ≡ v / 2 ^ i % 2
unfolding low_bits
low-at zero v i h = absurd (not-suc-le-zero h)
low-at (suc c) v zero h = let z : v / 2 ^ 0 ≡ v = omega arith in rw z
low-at (suc c) v (suc i) h =
    let e : suc i ≡ 1 + i = omega arith in
    low-at c (v / 2) i (omega arith) ∙ rw (e, ← shr-shr v 1 i)

-- no bit: 0
zero-low : (c v : ℕ) → v < 2 ^ c → all_zero (low_bits c v) ≡ eqb v 0
unfolding low_bits all_zero
zero-low zero v h = let z : v ≡ 0 = omega arith in rw z
zero-low (suc c) v h = go (dec_lt 0 v) (zero-low c (v / 2) (omega (arith, pow-suc 2 c)))
  where
    odd : 0 < v → (b : Bool) → eqb (v % 2) 0 ≡ b → all_zero (low_bits c (v / 2)) ≡ eqb (v / 2) 0 → (eqb (v % 2) 0 && all_zero (low_bits c (v / 2))) ≡ false
    odd l true t r = rw t (r ∙ ne_eqb (v / 2) 0 (λ z. omega (arith, eqb-true (v % 2) 0 t)))
    odd l false t r = rw t

    go : Dec (0 < v) → all_zero (low_bits c (v / 2)) ≡ eqb (v / 2) 0 → (eqb (v % 2) 0 && all_zero (low_bits c (v / 2))) ≡ eqb v 0
    go (yes l) r = odd l (eqb (v % 2) 0) refl r ∙ sym (ne_eqb v 0 (λ z. omega arith))
    go (no l) r = let z : v ≡ 0 = omega arith in rw (r, z)

-- the bits from r on are those of the number shifted by r
fill_low : (r c v : ℕ) → r ≤ c → v < 2 ^ c → all_zero (drop r (low_bits c v)) ≡ eqb (v / 2 ^ r) 0
unfolding low_bits
fill_low zero c v h g = let z : v / 2 ^ 0 ≡ v = omega arith in zero-low c v g ∙ rw z
fill_low (suc r) zero v h g = absurd (not-suc-le-zero h)
fill_low (suc r) (suc c) v h g =
    let e : suc r ≡ 1 + r = omega arith in
    fill_low r c (v / 2) (omega arith) (omega (arith, pow-suc 2 c)) ∙ rw (e, ← shr-shr v 1 r)

-- ---- a row of numbers

pub bits_length : (vs : List ℕ) → length (bits_in vs) ≡ 14 * length vs
unfolding bits_in
bits_length [] = refl
bits_length (v ∷ vs) = omega (arith, length-append (low_bits 14 v) (bits_in vs), low-length 14 v, bits_length vs)

bits_append : (vs ws : List ℕ) → bits_in (vs ++ ws) ≡ bits_in vs ++ bits_in ws
unfolding bits_in
bits_append [] ws = refl
bits_append (v ∷ vs) ws = rw (bits_append vs ws, append_assoc)

-- bit i is bit i % 14 of the number i / 14
pub bit_at : (vs : List ℕ) (i : ℕ) → i < 14 * length vs → get_or (bits_in vs) i 0 ≡ get_or vs (i / 14) 0 / 2 ^ (i % 14) % 2
unfolding bits_in
bit_at [] i h = absurd (omega arith)
bit_at (v ∷ vs) i h = go (dec_lt i 14) (bit_at vs (i - 14))
  where
    go :
        Dec (i < 14)
        → (i - 14 < 14 * length vs → get_or (bits_in vs) (i - 14) 0 ≡ get_or vs ((i - 14) / 14) 0 / 2 ^ ((i - 14) % 14) % 2)
        → get_or (low_bits 14 v ++ bits_in vs) i 0 ≡ get_or (v ∷ vs) (i / 14) 0 / 2 ^ (i % 14) % 2
    go (yes l) r =
        let a : i / 14 ≡ 0 = omega arith in
        let b : i % 14 ≡ i = omega arith in
        get_or-append (low_bits 14 v) (bits_in vs) 0 i (omega (arith, low-length 14 v)) ∙ low-at 14 v i l ∙ rw (a, b)
    go (no l) r =
        let a : i / 14 ≡ suc ((i - 14) / 14) = omega arith in
        let b : i % 14 ≡ (i - 14) % 14 = omega arith in
        let z : i ≡ length (low_bits 14 v) + (i - 14) = omega (arith, low-length 14 v) in
        ap (λ m. get_or (low_bits 14 v ++ bits_in vs) m 0) z
        ∙ get_or-append-add (low_bits 14 v) (bits_in vs) (i - 14) 0
        ∙ r (omega arith)
        ∙ rw (a, b)

-- no numbers: no fill bits
pub fill_none : (vs : List ℕ) (w : ℕ) → length vs ≡ 0 → true ≡ all_zero (drop w (bits_in vs))
unfolding bits_in all_zero
fill_none [] zero h = refl
fill_none [] (suc w) h = refl
fill_none (v ∷ vs) w h = absurd (omega arith)

-- the fill bits are the highest of the last number
pub fill_last :
    (vs : List ℕ) (w k : ℕ)
    → length vs ≡ suc k
    → 14 * k ≤ w
    → w ≤ 14 * suc k
    → Fourteens vs
    → eqb (get_or vs k 0 / 2 ^ (w - 14 * k)) 0 ≡ all_zero (drop w (bits_in vs))
unfolding bits_in
fill_last vs w k h g l f =
    let xs = take k vs in
    let v = get_or vs k 0 in
    let none : drop (suc k) vs ≡ [] = drop_of_length-le vs {i = suc k} (omega arith) in
    let split : vs ≡ xs ++ v ∷ [] = split_at vs k 0 (omega arith) ∙ rw none in
    let z : w ≡ length (bits_in xs) + (w - 14 * k) = omega (arith, bits_length xs, length-take k vs) in
    let apart : bits_in vs ≡ bits_in xs ++ low_bits 14 v = ap bits_in split ∙ bits_append xs (v ∷ []) ∙ rw (append-nil (low_bits 14 v)) in
    let cut : drop w (bits_in vs) ≡ drop (w - 14 * k) (low_bits 14 v) =
    ap (drop w) apart ∙ ap (λ m. drop m (bits_in xs ++ low_bits 14 v)) z ∙ drop-append-add (bits_in xs) (low_bits 14 v) (w - 14 * k)
    in
    sym (ap all_zero cut ∙ fill_low (w - 14 * k) 14 v (omega arith) (f k))

-- ---- the bits of fourteens

pub is_bit_lem : (bs : List ℕ) → Bits bs → (i : ℕ) → get_or bs i 0 < 2
unfolding Bits
is_bit_lem bs h i = h i

number_lt : (bs : List ℕ) → Bits bs → bits_number bs < 2 ^ length bs
unfolding bits_number Bits
number_lt [] h = omega arith
number_lt (b ∷ bs) h = omega (arith, pow-suc 2 (length bs), h 0, number_lt bs (λ j. h (suc j)))

pub bits_take : (n : ℕ) (bs : List ℕ) → Bits bs → Bits (take n bs)
unfolding Bits
bits_take zero bs h i = omega arith
bits_take (suc n) [] h i = omega arith
bits_take (suc n) (b ∷ bs) h zero = h 0
bits_take (suc n) (b ∷ bs) h (suc i) = bits_take n bs (λ j. h (suc j)) i

pub bits_drop : (n : ℕ) (bs : List ℕ) → Bits bs → Bits (drop n bs)
unfolding Bits
bits_drop n bs h i = rw get_or-drop (h (n + i))

-- at most fourteen bits have a number that fits two groups of seven
pub number_fits : (bs : List ℕ) → Bits bs → length bs ≤ 14 → bits_number bs < 16384
number_fits bs h l =
    let p : 2 ^ length bs ≤ 2 ^ 14 = pow_mono {i = length bs} {j = 14} l in
    omega (arith, number_lt bs h)

pub fourteens-fit : (k : ℕ) (bits : List ℕ) → Bits bits → Fourteens (fourteens k bits)
unfolding fourteens
fourteens-fit zero bits h i = omega arith
fourteens-fit (suc k) bits h zero = number_fits (take 14 bits) (bits_take 14 bits h) (omega (arith, length-take 14 bits))
fourteens-fit (suc k) bits h (suc i) = fourteens-fit k (drop 14 bits) (bits_drop 14 bits h) i

pub fourteens-length : (k : ℕ) (bits : List ℕ) → length (fourteens k bits) ≡ k
unfolding fourteens
fourteens-length zero bits = refl
fourteens-length (suc k) bits = ap suc (fourteens-length k (drop 14 bits))

low-zero : (c : ℕ) → low_bits c 0 ≡ replicate c 0
unfolding low_bits
low-zero zero = refl
low-zero (suc c) = ap (λ xs. 0 ∷ xs) (low-zero c)

-- the bits of a number of bits are those bits, and zeros
low-back : (c : ℕ) (bs : List ℕ) → Bits bs → length bs ≤ c → low_bits c (bits_number bs) ≡ bs ++ replicate (c - length bs) 0
unfolding low_bits bits_number Bits
low-back zero [] h l = refl
low-back zero (b ∷ bs) h l = absurd (not-suc-le-zero l)
low-back (suc c) [] h l = let z : suc c ≡ suc c - 0 = omega arith in low-zero (suc c) ∙ ap (λ m. replicate m 0) z
low-back (suc c) (b ∷ bs) h l =
    let a : (b + 2 * bits_number bs) % 2 ≡ b = omega (arith, h 0) in
    let d : (b + 2 * bits_number bs) / 2 ≡ bits_number bs = omega (arith, h 0) in
    let z : c - length bs ≡ suc c - suc (length bs) = omega arith in
    ap (λ x. x ∷ low_bits c ((b + 2 * bits_number bs) / 2)) a
    ∙ ap (λ x. b ∷ low_bits c x) d
    ∙ ap (λ xs. b ∷ xs) (low-back c bs (λ j. h (suc j)) (omega arith))
    ∙ ap (λ m. b ∷ (bs ++ replicate m 0)) z

pub fourteens-back :
    (k : ℕ) (bits : List ℕ)
    → Bits bits
    → length bits ≤ 14 * k
    → bits_in (fourteens k bits) ≡ bits ++ replicate (14 * k - length bits) 0
unfolding fourteens bits_in
fourteens-back zero [] h l = refl
fourteens-back zero (b ∷ bs) h l = absurd (omega arith)
fourteens-back (suc k) bits h l = go (dec_lt (length bits) 14) (fourteens-back k (drop 14 bits) (bits_drop 14 bits h) (omega (arith, length-drop 14 bits)))
  where
    first : low_bits 14 (bits_number (take 14 bits)) ≡ take 14 bits ++ replicate (14 - length (take 14 bits)) 0
    first = low-back 14 (take 14 bits) (bits_take 14 bits h) (omega (arith, length-take 14 bits))

    go :
        Dec (length bits < 14)
        → bits_in (fourteens k (drop 14 bits)) ≡ drop 14 bits ++ replicate (14 * k - length (drop 14 bits)) 0
        → low_bits 14 (bits_number (take 14 bits)) ++ bits_in (fourteens k (drop 14 bits)) ≡ bits ++ replicate (14 * suc k - length bits) 0
    go (yes s) r =
        let none : drop 14 bits ≡ [] = drop_of_length-le bits {i = 14} (omega arith) in
        let all : take 14 bits ≡ bits = take_all 14 bits (omega arith) in
        let head : low_bits 14 (bits_number (take 14 bits)) ≡ bits ++ replicate (14 - length bits) 0 = first ∙ rw all in
        let z₀ : 14 * k - 0 ≡ 14 * k = omega arith in
        let rest : bits_in (fourteens k (drop 14 bits)) ≡ replicate (14 * k) 0 = r ∙ rw (none, z₀) in
        let z : 14 - length bits + 14 * k ≡ 14 * suc k - length bits = omega arith in
        rw (head, rest, append_assoc) (ap (λ xs. bits ++ xs) (replicate-append-replicate (14 - length bits) (14 * k) 0 ∙ ap (λ m. replicate m 0) z))
    go (no s) r =
        let full : 14 - length (take 14 bits) ≡ 0 = omega (arith, length-take 14 bits) in
        let head : low_bits 14 (bits_number (take 14 bits)) ≡ take 14 bits = first ∙ rw (full, append-nil) in
        let z : 14 * k - length (drop 14 bits) ≡ 14 * suc k - length bits = omega (arith, length-drop 14 bits) in
        rw (head, r, z, ← append_assoc) (ap (λ xs. xs ++ replicate (14 * suc k - length bits) 0) (take-append-drop 14 bits))

zeros : (n : ℕ) → all_zero (replicate n 0) ≡ true
unfolding all_zero
zeros zero = refl
zeros (suc n) = zeros n

-- so the first bits are the setting, and the fill bits are 0
module _ (bits : List ℕ) (w : ℕ) (h : Bits bits) (e : length bits ≡ w) where
  whole : bits_in (fourteens (numbers_for w) bits) ≡ bits ++ replicate (14 * numbers_for w - length bits) 0
  whole = fourteens-back (numbers_for w) bits h (omega arith)

  pub setting-back : take w (bits_in (fourteens (numbers_for w) bits)) ≡ bits
  setting-back = rw whole (take_at bits (replicate (14 * numbers_for w - length bits) 0) w e)

  pub fill_back : all_zero (drop w (bits_in (fourteens (numbers_for w) bits))) ≡ true
  fill_back = rw whole (ap all_zero (drop_at bits (replicate (14 * numbers_for w - length bits) 0) w e) ∙ zeros (14 * numbers_for w - length bits))
