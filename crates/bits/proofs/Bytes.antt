-- Question 7's sweeps, byte by byte.
-- Assumes nothing.
use mathlib.Core.Path.{◌≡◌, refl, sym, ◌∙◌}
use mathlib.Core.Bool.{Bool, true, false}
use mathlib.Core.List.{List}
use Prim.Native.Nat.{ℕ, ◌+◌, ◌<◌}
use native.Mathlib.Omega.{arith}
use native.Mathlib.Decide.{ℕ_discrete, dec_lt}
use mir.Val.{bool_byte}
use lib.Bits.{bit_or}
use lib.Dec.{ltb, eqb}
use lib.ListN.{length, get_or, get_or-eq_default}
use borrow.Author.Tests.{eqb-true, eqb-false, eq-eqb, ne_eqb, ltb-true, ltb-false, lt-ltb, le-ltb}
use Rattle.answers.specs.Questions.{first_bad}
use Rattle.answers.proofs.Questions.{bad_within, bad_counts, bad_stops, bad_stays, all_good, none_bad}
use Rattle.bits.specs.Bits.{is_bit, Bits, unequal}

-- the flag goes up at a byte above 1 and stays up
pub flag_more : (bits : List ℕ) (i bad : ℕ) → bad ≡ unequal (first_bad (is_bit bits) i) i
    → bit_or bad (bool_byte (ltb 1 (get_or bits i 0))) ≡ unequal (first_bad (is_bit bits) (i + 1)) (i + 1)
flag_more bits i bad e = go (eqb (first i) i) (ltb 1 (get_or bits i 0)) refl refl
  where
    first : ℕ → ℕ
    first n = first_bad (is_bit bits) n

    up : (n : ℕ) → first n ≡ n → unequal (first n) n ≡ 0
    up n s = rw (eq-eqb (first n) n s)

    down : (n : ℕ) → (first n ≡ n → ⊥) → unequal (first n) n ≡ 1
    down n s = rw (ne_eqb (first n) n s)

    bit : ltb 1 (get_or bits i 0) ≡ false → is_bit bits i ≡ true
    bit t = lt-ltb (get_or bits i 0) 2 (omega (arith, ltb-false 1 (get_or bits i 0) t))

    none : ltb 1 (get_or bits i 0) ≡ true → is_bit bits i ≡ false
    none t = le-ltb (get_or bits i 0) 2 (omega (arith, ltb-true 1 (get_or bits i 0) t))

    apart : eqb (first i) i ≡ false → first (i + 1) ≡ i + 1 → ⊥
    apart d s = omega (arith, bad_within (is_bit bits) i, bad_stays (is_bit bits) i (below d))
      where
        below : eqb (first i) i ≡ false → first i < i
        below d = elim (ℕ_discrete (first i) i) [ yes x ↦ absurd (eqb-false (first i) i d x) | no x ↦ omega (arith, bad_within (is_bit bits) i) ]

    go : (d b : Bool) → eqb (first i) i ≡ d → ltb 1 (get_or bits i 0) ≡ b → bit_or bad (bool_byte b) ≡ unequal (first (i + 1)) (i + 1)
    go true false d t =
        rw (e ∙ up i (eqb-true (first i) i d))
        (sym (up (i + 1) (bad_counts (is_bit bits) i (eqb-true (first i) i d) (bit t))))
    go true true d t =
        rw (e ∙ up i (eqb-true (first i) i d))
        (sym (down (i + 1) (λ s. omega (arith, bad_stops (is_bit bits) i (eqb-true (first i) i d) (none t)))))
    go false b d t = rw (e ∙ down i (eqb-false (first i) i d)) (one b ∙ sym (down (i + 1) (apart d)))
      where
        one : (b : Bool) → bit_or 1 (bool_byte b) ≡ 1
        one true = refl
        one false = refl

-- the flag down: no bad byte; up: some
pub flag_down : (bits : List ℕ) (n : ℕ) {r : ℕ} → r ≡ unequal (first_bad (is_bit bits) n) n → r ≡ 0 → n ≡ first_bad (is_bit bits) n
flag_down bits n {r} e z = elim (ℕ_discrete (first_bad (is_bit bits) n) n) [ yes s ↦ sym s | no s ↦ absurd (omega (arith, e ∙ down s)) ]
  where
    down : (first_bad (is_bit bits) n ≡ n → ⊥) → unequal (first_bad (is_bit bits) n) n ≡ 1
    down s = rw (ne_eqb (first_bad (is_bit bits) n) n s)

-- question 7 gets a yes exactly where every byte is 0 or 1
pub bits_all : (bits : List ℕ) → first_bad (is_bit bits) (length bits) ≡ length bits → Bits bits
unfolding Bits
bits_all bits e i = elim (dec_lt i (length bits)) [
  | yes l ↦ ltb-true (get_or bits i 0) 2 (all_good (is_bit bits) (length bits) e i l)
  | no l ↦ rw (get_or-eq_default bits 0 {n = i} (omega arith)) (omega arith)
]

pub all_bits_lem : (bits : List ℕ) → Bits bits → first_bad (is_bit bits) (length bits) ≡ length bits
unfolding Bits
all_bits_lem bits h = none_bad (is_bit bits) (length bits) (λ i l. lt-ltb (get_or bits i 0) 2 (h i))
