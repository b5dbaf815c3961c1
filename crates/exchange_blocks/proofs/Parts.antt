-- Bytes switched in parts, one behind the other; bytes switched through arrays of their own.
-- Assumes nothing.
use Rattle.std.proofs.Common.{◌≡◌, ℕ, zero, suc, ◌+◌, ◌*◌, ◌/◌, ◌%◌, ◌<◌, ◌≤◌, List, length, get_or, set, sym, refl, ap, ◌∙◌, mul-suc, add-one, arith, length-set, get_or-set_other, get_or-set_same}
use native.Mathlib.Decide.{ℕ_discrete}
use Rattle.network.specs.Move.{switch}
use Rattle.exchange_words.specs.Bytes.{bytes_switched}
use Rattle.exchange_words.specs.Words.{pick}
use Rattle.exchange_words.proofs.Written.{Picked}

-- m bytes, and n behind them
pub bytes_more : (a gap s m n : ℕ) (l : List ℕ)
    → bytes_switched (a + m) gap s n (bytes_switched a gap s m l) ≡ bytes_switched a gap s (m + n) l
unfolding bytes_switched
bytes_more a gap s m zero l = ap (λ c. bytes_switched a gap s c l) (let e : m ≡ m + 0 = omega arith in e)
bytes_more a gap s m (suc n) l =
    ap (switch 0 (a + m + n) (a + m + n + gap) s) (bytes_more a gap s m n l)
    ∙ ap (λ p. switch 0 p (p + gap) s (bytes_switched a gap s (m + n) l)) (let e : a + m + n ≡ a + (m + n) = omega arith in e)
    ∙ ap (λ c. bytes_switched a gap s c l) (let e : suc (m + n) ≡ m + suc n = omega arith in e)

-- n bytes behind the m that are switched
pub behind_bytes : (a gap s m n : ℕ) (l now next : List ℕ) (p : ℕ) → p ≡ a + m → now ≡ bytes_switched a gap s m l
    → next ≡ bytes_switched p gap s n now → next ≡ bytes_switched a gap s (m + n) l
behind_bytes a gap s m n l now next p at e f =
    f ∙ ap (λ q. bytes_switched q gap s n now) at ∙ ap (bytes_switched (a + m) gap s n) e ∙ bytes_more a gap s m n l

-- one part more of `size` bytes
pub part_more : (size a gap s j : ℕ) (l now next : List ℕ) → now ≡ bytes_switched a gap s (size * j) l
    → next ≡ bytes_switched (a + size * j) gap s size now → next ≡ bytes_switched a gap s (size * (j + 1)) l
part_more size a gap s j l now next e f =
    behind_bytes a gap s (size * j) size l now next (a + size * j) refl e f
    ∙ ap (λ c. bytes_switched a gap s c l) (let g : size * j + size ≡ size * (j + 1) = sym (rw add-one (mul-suc size j)) in g)

-- nothing is left
pub none : (a gap s : ℕ) (l : List ℕ) → l ≡ bytes_switched a gap s 0 l
unfolding bytes_switched
none a gap s l = refl

-- ---- the digits of a number of bytes

pub four_digit : (n : ℕ) → n ≡ 8 * (n / 8) + (4 * (n / 4 % 2) + n % 4)
four_digit n = omega arith

sum : (p q r n x : ℕ) → n ≡ p + (q + r) → r ≡ x → n ≡ p + q + x
sum p q r n x e f = omega arith

pub two_digit : (n : ℕ) → n ≡ 8 * (n / 8) + 4 * (n / 4 % 2) + (2 * (n / 2 % 2) + n % 2)
two_digit n =
    let low : n % 4 ≡ 2 * (n / 2 % 2) + n % 2 = omega arith in
    sum (8 * (n / 8)) (4 * (n / 4 % 2)) (n % 4) n (2 * (n / 2 % 2) + n % 2) (four_digit n) low

pub one-digit : (n : ℕ) → n ≡ 8 * (n / 8) + 4 * (n / 4 % 2) + 2 * (n / 2 % 2) + (1 * (n / 1 % 2) + 0)
one-digit n = sum (8 * (n / 8) + 4 * (n / 4 % 2)) (2 * (n / 2 % 2)) (n % 2) n (1 * (n / 1 % 2) + 0) (two_digit n)
    (let z : n % 2 ≡ 1 * (n / 1 % 2) + 0 = omega arith in z)

-- `size` of n bytes lie inside, behind those before them
pub behind : (before size after n gap a at long now : ℕ) → n ≡ before + (size + after) → n ≤ gap → a + gap + n ≤ long
    → at ≡ a + before → now ≡ long → (size ≤ gap) × (at + gap + size ≤ now)
behind before size after n gap a at long now d h l p e = (omega arith, omega arith)

-- the place behind two parts
pub after : (a m n p q : ℕ) → p ≡ a + m → q ≡ p + n → q ≡ a + (m + n)
after a m n p q e f = omega arith

-- ---- two arrays whose first j bytes are switched

pub record Halfway (s j : ℕ) (x₀ y₀ x y : List ℕ) : Type 0 where
  pub done : (i : ℕ) → i < j → Picked s (get_or x₀ i 0) (get_or y₀ i 0) (get_or x i 0) (get_or y i 0)
  pub left_x : (i : ℕ) → j ≤ i → get_or x i 0 ≡ get_or x₀ i 0
  pub left_y : (i : ℕ) → j ≤ i → get_or y i 0 ≡ get_or y₀ i 0
  pub long_x : length x ≡ length x₀
  pub long_y : length y ≡ length y₀

pub half_none : (s : ℕ) (x y : List ℕ) → Halfway s 0 x y x y
half_none s x y =
    record { done = λ i h. absurd (omega arith); left_x = λ i h. refl; left_y = λ i h. refl; long_x = refl; long_y = refl }

pub half_more : (s j : ℕ) (x₀ y₀ x y : List ℕ) (u v : ℕ) → j < length x₀ → j < length y₀ → Halfway s j x₀ y₀ x y
    → Picked s (get_or x₀ j 0) (get_or y₀ j 0) u v → Halfway s (j + 1) x₀ y₀ (set x j u) (set y j v)
half_more s j x₀ y₀ x y u v hx hy h p =
    record {
      done = λ i m. go i m (ℕ_discrete i j);
      left_x = λ i m. get_or-set_other x j i u 0 (λ e. omega arith) ∙ h.left_x i (omega arith);
      left_y = λ i m. get_or-set_other y j i v 0 (λ e. omega arith) ∙ h.left_y i (omega arith);
      long_x = length-set x j u ∙ h.long_x;
      long_y = length-set y j v ∙ h.long_y;
    }
  where
    go : (i : ℕ) → i < j + 1 → Dec (i ≡ j) → Picked s (get_or x₀ i 0) (get_or y₀ i 0) (get_or (set x j u) i 0) (get_or (set y j v) i 0)
    go i m (yes same) =
        let ex = get_or-set_same x j u 0 (omega (arith, h.long_x)) in
        let ey = get_or-set_same y j v 0 (omega (arith, h.long_y)) in
        rw same (record { lower = ex ∙ p.lower; upper = ey ∙ p.upper })
    go i m (no other) =
        let q = h.done i (omega arith) in
        record { lower = get_or-set_other x j i u 0 other ∙ q.lower; upper = get_or-set_other y j i v 0 other ∙ q.upper }

-- what was taken of the blocks
pub taken-picked : (s : ℕ) {x y x₁ y₁ x' y' : ℕ} → x ≡ x₁ → y ≡ y₁ → Picked s x y x' y' → Picked s x₁ y₁ x' y'
taken-picked s {x} {y} {x₁} {y₁} {x'} {y'} ex ey p =
    record {
      lower = p.lower ∙ ap (λ u. pick s u y) ex ∙ ap (pick s x₁) ey;
      upper = p.upper ∙ ap (λ u. pick s u x) ey ∙ ap (pick s y₁) ex;
    }
