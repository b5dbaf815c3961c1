-- The rules of W and E without the depth: both are counts by halves, so one argument serves both.
-- Assumes nothing.
use mathlib.Core.Path.{◌≡◌, refl, sym, ◌∙◌}
use Prim.Native.Nat.{ℕ, zero, suc, ◌+◌, ◌-◌, ◌*◌, ◌/◌, ◌%◌, ◌≤◌, ◌<◌, min}
use native.Mathlib.Omega.{arith}
use native.Mathlib.Decide.{dec_lt}
use borrow.Author.Tests.{lt-ltb, le-ltb, ne_eqb}
use Rattle.counts.specs.Counts.{W, E, up, by_halves, switch_rule, entry_rule}

-- half of n rounded up, without a sum that could exceed n
pub up_parts : (n : ℕ) → n / 2 + n % 2 ≡ up n
up_parts n = omega arith

-- .. as std rounds it
pub up_ceil : (n k : ℕ) → k ≡ n / 2 + min 1 (n % 2) → k ≡ up n
up_ceil n k e = omega (arith, e)

module _ (rule : ℕ → ℕ → ℕ → ℕ) where
  pub none : (d n : ℕ) → n < 2 → by_halves rule d n ≡ 0
  unfolding by_halves
  none zero n h = refl
  none (suc d) n h = rw (by_halves, lt-ltb n 2 h)

  more : (d n : ℕ) → 2 ≤ n → by_halves rule (suc d) n ≡ rule n (by_halves rule d (up n)) (by_halves rule d (n - up n))
  unfolding by_halves
  more d n h = rw (by_halves, le-ltb n 2 h)

  -- any depth from n on gives the same count
  enough : (d e n : ℕ) → n ≤ d → n ≤ e → by_halves rule d n ≡ by_halves rule e n
  enough zero e n h g = none zero n (omega arith) ∙ sym (none e n (omega arith))
  enough (suc d) zero n h g = none (suc d) n (omega arith) ∙ sym (none zero n (omega arith))
  enough (suc d) (suc e) n h g = go (dec_lt n 2) (enough d e (up n)) (enough d e (n - up n))
    where
      go :
          Dec (n < 2)
          → (up n ≤ d → up n ≤ e → by_halves rule d (up n) ≡ by_halves rule e (up n))
          → (n - up n ≤ d → n - up n ≤ e → by_halves rule d (n - up n) ≡ by_halves rule e (n - up n))
          → by_halves rule (suc d) n ≡ by_halves rule (suc e) n
      go (yes l) top bottom = none (suc d) n l ∙ sym (none (suc e) n l)
      go (no l) top bottom =
          rw (more d n (omega arith), more e n (omega arith), top (omega arith) (omega arith), bottom (omega arith) (omega arith))

  pub halved : (n : ℕ) → 2 ≤ n
      → by_halves rule n n ≡ rule n (by_halves rule (up n) (up n)) (by_halves rule (n - up n) (n - up n))
  halved n h =
      enough n (suc n) n (omega arith) (omega arith) ∙ more n n h
      ∙ rw (enough n (up n) (up n) (omega arith) (omega arith), enough n (n - up n) (n - up n) (omega arith) (omega arith))

-- from three places on the rule of E is a sum
pub entry-sum : (n top bottom : ℕ) → 3 ≤ n → entry_rule n top bottom ≡ 3 * up n + 3 + top + bottom
entry-sum n top bottom h = rw (ne_eqb n 2 (λ e. omega arith), entry_rule) (omega arith)

pub W_none : (n : ℕ) → n < 2 → W n ≡ 0
unfolding W
W_none n h = none switch_rule n n h

pub W_more : (n : ℕ) → 2 ≤ n → W n ≡ n - 1 + W (up n) + W (n - up n)
unfolding W
W_more n h = halved switch_rule n h

pub E_none : (n : ℕ) → n < 2 → E n ≡ 0
unfolding E
E_none n h = none entry_rule n n h

pub E_two : E 2 ≡ 2
unfolding E by_halves
E_two = refl

pub E_more : (n : ℕ) → 3 ≤ n → E n ≡ 3 * up n + 3 + E (up n) + E (n - up n)
unfolding E
E_more n h = halved entry_rule n (omega arith) ∙ entry-sum n (E (up n)) (E (n - up n)) h
