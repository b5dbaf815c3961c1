-- FAIR DRAWING: with d places left each remainder comes from 2^32 / d words, so all come from equally many (02, F-5).
-- Assumes nothing.
use mathlib.Core.Path.{◌≡◌, sym, ap, ◌∙◌}
use mathlib.Core.Bool.{Bool, true, ◌&&◌}
use Prim.Native.Nat.{ℕ, zero, suc, ◌+◌, ◌-◌, ◌*◌, ◌/◌, ◌%◌, ◌^◌, ◌≤◌, ◌<◌}
use native.Mathlib.Nat.{add-zero, add-suc, zero-mul, suc-mul, mul-le-mul_right, mod-lt, mod-eq_of_lt, div-mul-le_self, div-add-mod', mul-add-mod_self_right}
use native.Mathlib.Omega.{arith}
use native.Mathlib.Decide.{dec_lt}
use lib.Dec.{ltb, eqb}
use borrow.Author.Tests.{lt-ltb, le-ltb, eq-eqb, ne_eqb}
use Rattle.permutation.specs.Permutations.{bit, how_many}
use Rattle.permutation.proofs.Sweeps.{all_fail, same_count}
use Rattle.shuffle_fair.specs.Words.{limit, fit}
use Rattle.shuffle_fair.specs.Fair.{words_leaving}

-- ---- the limit: a multiple of d that doesn't exceed 2^32, and none that doesn't is larger

pub limit_within : (d : ℕ) → limit d ≤ 2 ^ 32
limit_within d = div-mul-le_self (2 ^ 32) d

-- the next multiple exceeds 2^32
pub limit_next : (d : ℕ) → 0 < d → 2 ^ 32 < limit d + d
limit_next d some = omega (arith, div-add-mod' (2 ^ 32) d, mod-lt (2 ^ 32) some)

pub limit_largest : (d k : ℕ) → 0 < d → k * d ≤ 2 ^ 32 → k * d ≤ limit d
limit_largest d k some within = go (dec_lt (2 ^ 32 / d) k)
  where
    go : Dec (2 ^ 32 / d < k) → k * d ≤ limit d
    go (yes l) =
        let more : suc (2 ^ 32 / d) * d ≤ k * d = mul-le-mul_right d l in
        absurd (omega (arith, limit_next d some, more, suc-mul (2 ^ 32 / d) d))
    go (no l) = mul-le-mul_right d (omega arith)

-- a word below 2^32 - 1,023 is taken at every turn
pub low-fit : (d word : ℕ) → 0 < d → d ≤ 1024 → word < 2 ^ 32 - 1023 → fit d word ≡ true
low-fit d word some few low = lt-ltb word (limit d) (omega (arith, limit_next d some))

-- ---- counting

count-sum : (test : ℕ → Bool) (a b : ℕ) → how_many test (a + b) ≡ how_many test a + how_many (λ i. test (a + i)) b
unfolding how_many
count-sum test a zero = rw (add-zero a) (omega arith)
count-sum test a (suc b) = rw (add-suc a b, count-sum test a b) (omega arith)

module _ (d x : ℕ) (l : x < d) where
  abbrev leaves : ℕ → Bool
  leaves word = eqb (word % d) x

  -- among d words in sequence, one
  one-leaves : how_many leaves d ≡ 1
  unfolding how_many
  one-leaves =
      let rest = d - suc x in
      let whole : suc x + rest ≡ d = omega arith in
      let before : how_many leaves x ≡ 0 =
      all_fail leaves x (λ i m. ne_eqb (i % d) x (λ e. omega (arith, mod-eq_of_lt {n = i} {m = d} (omega arith))))
      in
      let here : leaves x ≡ true = eq-eqb (x % d) x (mod-eq_of_lt l) in
      let behind : how_many (λ i. leaves (suc x + i)) rest ≡ 0 =
      all_fail (λ i. leaves (suc x + i)) rest
      (λ i m. ne_eqb ((suc x + i) % d) x (λ e. omega (arith, mod-eq_of_lt {n = suc x + i} {m = d} (omega arith))))
      in
      ap (how_many leaves) (sym whole) ∙ count-sum leaves (suc x) rest ∙ omega (arith, before, ap bit here, behind)

  -- among q times d, q
  many_leave : (q : ℕ) → how_many leaves (q * d) ≡ q
  unfolding how_many
  many_leave zero = rw (zero-mul d)
  many_leave (suc q) =
      let again : how_many (λ i. leaves (q * d + i)) d ≡ how_many leaves d =
      same_count (λ i. leaves (q * d + i)) leaves d (λ i m. ap (λ r. eqb r x) (mul-add-mod_self_right q d i))
      in
      ap (how_many leaves) (suc-mul q d) ∙ count-sum leaves (q * d) d ∙ omega (arith, many_leave q, again, one-leaves)

  -- of m words: those up to the largest multiple of d, and none behind it
  fair_among : (m : ℕ) → how_many (λ word. ltb word (m / d * d) && leaves word) m ≡ m / d
  fair_among m =
      let top = m / d * d in
      let test : ℕ → Bool = λ word. ltb word top && leaves word in
      let front : how_many test top ≡ m / d =
      same_count test leaves top (λ i h. ap (λ b. b && leaves i) (lt-ltb i top h)) ∙ many_leave (m / d)
      in
      let back : how_many (λ i. test (top + i)) (m % d) ≡ 0 =
      all_fail (λ i. test (top + i)) (m % d) (λ i h. ap (λ b. b && leaves (top + i)) (le-ltb (top + i) top (omega arith)))
      in
      ap (how_many test) (sym (div-add-mod' m d)) ∙ count-sum test top (m % d) ∙ omega (arith, front, back)

  pub fair : words_leaving d x ≡ 2 ^ 32 / d
  fair = fair_among (2 ^ 32)

pub equally_many : (d x y : ℕ) → x < d → y < d → words_leaving d x ≡ words_leaving d y
equally_many d x y l m = fair d x l ∙ sym (fair d y m)
