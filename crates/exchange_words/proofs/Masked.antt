-- Two numbers of so many bits, one gaining and the other losing their masked difference.
-- Assumes nothing.
use Rattle.std.proofs.Common.{◌≡◌, ℕ, zero, suc, ◌+◌, ◌*◌, ◌%◌, ◌^◌, ◌<◌, sym, ap, ◌∙◌, mod-eq_of_lt, add_comm, arith}
use lib.Bits.{bit_and, and_mask, and_zero_r}
use Rattle.exchange_words.specs.Words.{pick}

-- below M, and `ones` the mask of all bits
module _ (M ones : ℕ) (whole : (d : ℕ) → d < M → bit_and d ones ≡ d) (alone : (z : ℕ) → z < M → (z + 0) % M ≡ z)
    (undone : (d x z : ℕ) → d < M → x < M → z < M → (z + d) % M ≡ (d + x) % M → z ≡ x) where
  masked : (s x y d x' y' : ℕ) → s < 2 → x < M → d < M → y' < M → (d + x) % M ≡ y → x' ≡ (x + bit_and d (s * ones)) % M
      → (y' + bit_and d (s * ones)) % M ≡ y → (x' ≡ pick s x y) × (y' ≡ pick s y x)
  masked zero x y d x' y' hs hx hd hz e f g =
      let none : bit_and d (0 * ones) ≡ 0 = ap (bit_and d) (let z : 0 * ones ≡ 0 = omega arith in z) ∙ and_zero_r d in
      let kept : (z : ℕ) → z < M → (z + bit_and d (0 * ones)) % M ≡ z = λ z h. rw none (alone z h) in
      (f ∙ kept x hx, sym (kept y' hz) ∙ g)
  masked (suc zero) x y d x' y' hs hx hd hz e f g =
      let all : bit_and d (1 * ones) ≡ d = ap (bit_and d) (let z : 1 * ones ≡ ones = omega arith in z) ∙ whole d hd in
      (f ∙ rw (all, add_comm x d) e, undone d x y' hd hx hz (sym (ap (λ u. (y' + u) % M) all) ∙ g ∙ sym e))
  masked (suc (suc s)) x y d x' y' hs hx hd hz e f g = absurd (omega arith)

pub masked_byte : (s x y d x' y' : ℕ) → s < 2 → x < 256 → d < 256 → y' < 256 → (d + x) % 2 ^ 8 ≡ y
    → x' ≡ (x + bit_and d (s * 255)) % 2 ^ 8 → (y' + bit_and d (s * 255)) % 2 ^ 8 ≡ y → (x' ≡ pick s x y) × (y' ≡ pick s y x)
masked_byte =
    masked 256 255 (λ d h. and_mask d 8 ∙ mod-eq_of_lt h) (λ z h. omega arith) (λ d x z hd hx hz e. omega arith)

pub masked_word : (s x y d x' y' : ℕ) → s < 2 → x < 2 ^ 64 → d < 2 ^ 64 → y' < 2 ^ 64 → (d + x) % 2 ^ 64 ≡ y
    → x' ≡ (x + bit_and d (s * 18446744073709551615)) % 2 ^ 64 → (y' + bit_and d (s * 18446744073709551615)) % 2 ^ 64 ≡ y
    → (x' ≡ pick s x y) × (y' ≡ pick s y x)
masked_word =
    masked (2 ^ 64) 18446744073709551615 (λ d h. and_mask d 64 ∙ mod-eq_of_lt h) (λ z h. omega arith) (λ d x z hd hx hz e. omega arith)
