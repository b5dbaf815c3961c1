-- One place more of the loops of `look_in` and `seek_in`.
-- Assumes nothing.
use mathlib.Core.Path.{◌≡◌, refl, sym, ◌∙◌}
use mathlib.Core.Bool.{Bool, true, false, not, cond}
use mathlib.Core.List.{List}
use Prim.Native.Nat.{ℕ, zero, suc, ◌+◌, ◌-◌, ◌*◌, ◌≤◌, ◌<◌}
use native.Mathlib.Nat.{mod-eq_of_lt}
use native.Mathlib.Numerals.{add-one}
use native.Mathlib.Omega.{arith}
use native.Mathlib.Decide.{ℕ_discrete, dec_lt}
use mir.Val.{bool_byte}
use lib.Bits.{bit_and, bit_or, and_mask, and_zero_r, or_zero_r, or_zero_l, or_add_and}
use lib.Dec.{ltb, eqb}
use lib.ListN.{get_or}
use borrow.Author.Tests.{lt-ltb, le-ltb, eq-eqb, ne_eqb}
use Rattle.steps.specs.Sweeps.{look, seek}
use Rattle.steps.specs.Steps.{digit}
use Rattle.select.proofs.Numbers.{digit_small, digit_byte, digit_is, masked}
use Rattle.control_rows.specs.Rows.{sixteens, Padded}
use Rattle.control_rows.proofs.Rows.{seek-padded}

-- a number under the mask of a test
pub under_test : (b : Bool) (x : ℕ) → x < 65536 → bit_and x (bool_byte b * 65535) ≡ cond b x 0
under_test b x l = rw (digit_byte b, masked 16 65535 refl (digit b) x (digit_small b) l, digit_is b)

pub test_below : (b : Bool) (x n : ℕ) → x < n → cond b x 0 < n
test_below true x n h = h
test_below false x n h = omega arith

-- ---- look: the number at q once q has passed

unfoldable pub looked_up : List ℕ → ℕ → ℕ → ℕ
looked_up row q i = cond (ltb q i) (get_or row q 0) 0

pub look_none : (row : List ℕ) (q : ℕ) → 0 ≡ looked_up row q 0
unfolding looked_up
look_none row q = rw (le-ltb q 0 (omega arith))

look-step : (row : List ℕ) (q i : ℕ) → bit_or (looked_up row q i) (cond (eqb i q) (get_or row i 0) 0) ≡ looked_up row q (i + 1)
unfolding looked_up
look-step row q i = go (ℕ_discrete i q) (dec_lt q i)
  where
    go : Dec (i ≡ q) → Dec (q < i) → bit_or (looked_up row q i) (cond (eqb i q) (get_or row i 0) 0) ≡ looked_up row q (i + 1)
    go (yes e) d = rw (eq-eqb i q e, le-ltb q i (omega arith), lt-ltb q (i + 1) (omega arith), or_zero_l (get_or row i 0), e)
    go (no e) (yes l) = rw (ne_eqb i q e, lt-ltb q i l, lt-ltb q (i + 1) (omega arith)) (or_zero_r (get_or row q 0))
    go (no e) (no l) = rw (ne_eqb i q e, le-ltb q i (omega arith), le-ltb q (i + 1) (omega arith)) (or_zero_r 0)

-- the code's number x at place i: masked by whether i is q
pub look_code : (row : List ℕ) (q i c g x r : ℕ) → c ≡ i → g ≡ looked_up row q i → x ≡ get_or row i 0 → x < 65536
    → r ≡ bool_byte (eqb c q) * 65535 → bit_or g (bit_and x r) ≡ looked_up row q (i + 1)
look_code row q i c g x r ec eg ex l er = rw (eg, er, under_test (eqb c q) x l, ec, ex) (look-step row q i)

-- all ones: what an imagined place is sought as
all_ones : (p : ℕ) → p < 65536 → (bit_and p 65535 ≡ p) × (bit_or p 65535 ≡ 65535)
all_ones p l =
    let e : bit_and p 65535 ≡ p = and_mask p 16 ∙ mod-eq_of_lt l in
    (e, omega (arith, or_add_and p 65535))

pub look_all : (row : List ℕ) (m p past q g n : ℕ) → m ≤ 1024 → p < 32768 → past ≡ digit (not (ltb p m)) * 65535 → q ≡ bit_or p past
    → n ≡ sixteens m → g ≡ looked_up row q n → bit_or g (bit_and p past) ≡ look (λ i. i) m row p
unfolding looked_up look
look_all row m p past q g n hm hp e eq en eg = go (dec_lt p m)
  where
    go : Dec (p < m) → bit_or g (bit_and p past) ≡ cond (ltb p m) (get_or row p 0) p
    go (yes l) =
        let t = lt-ltb p m l in
        let z : past ≡ 0 = e ∙ rw t in
        let s : q ≡ p = eq ∙ rw (z) (or_zero_r p) in
        rw (t, z, and_zero_r p, or_zero_r g) (eg ∙ rw (s, lt-ltb p n (omega arith)))
    go (no l) =
        let t = le-ltb p m (omega arith) in
        let z : past ≡ 65535 = e ∙ rw t in
        let s : q ≡ 65535 = eq ∙ rw (z) (all_ones p (omega arith)).1 in
        let w : g ≡ 0 = eg ∙ rw (s, le-ltb 65535 n (omega arith)) in
        rw (t, z, w, (all_ones p (omega arith)).0) (or_zero_l p)

-- ---- seek: the greatest number, one more than its place, among those that hold a; 0 is none

abbrev pub sought : ℕ → ℕ → ℕ
sought a best = cond (eqb best 0) a (best - 1)

pub record Best (row : List ℕ) (a i best : ℕ) : Type 0 where
  pub small : best ≤ i
  pub is : seek (λ j. j) i row a ≡ sought a best

pub seek_none : (row : List ℕ) (a : ℕ) → Best row a 0 0
unfolding seek
seek_none row a = record { small = omega arith; is = refl }

pub seek-step : (row : List ℕ) (a i best y : ℕ) → Best row a i best → y ≡ cond (eqb (get_or row i 0) a) (i + 1) 0
    → Best row a (i + 1) (cond (ltb y best) best y)
unfolding seek
seek-step row a i best y B e = go (eqb (get_or row i 0) a) refl
  where
    more : (b : Bool) → eqb (get_or row i 0) a ≡ b → seek (λ j. j) (i + 1) row a ≡ cond b i (seek (λ j. j) i row a)
    more b t = rw (add-one i, seek, t)

    greater : (n : ℕ) → cond (ltb 0 n) n 0 ≡ n
    greater zero = refl
    greater (suc n) = rw (lt-ltb 0 (suc n) (omega arith))

    go : (b : Bool) → eqb (get_or row i 0) a ≡ b → Best row a (i + 1) (cond (ltb y best) best y)
    go true t =
        let f : y ≡ i + 1 = e ∙ rw t in
        let n : eqb (i + 1) 0 ≡ false = ne_eqb (i + 1) 0 (λ q. omega arith) in
        rw (f, le-ltb (i + 1) best (omega (arith, B.small))) (record { small = omega arith; is = more true t ∙ rw n (omega arith) })
    go false t =
        let f : y ≡ 0 = e ∙ rw t in
        rw (f, greater best) (record { small = omega (arith, B.small); is = more false t ∙ B.is })

pub seek_all : (row : List ℕ) (m a n best : ℕ) → a < 65535 → n ≡ sixteens m → Padded m row → Best row a n best
    → cond (eqb (digit (not (ltb best 1))) 1) (best - digit (not (ltb best 1))) a ≡ seek (λ j. j) m row a
seek_all row m a n best h e P B = go (ℕ_discrete best 0) ∙ rw e (seek-padded m row a h P)
  where
    go : Dec (best ≡ 0) → cond (eqb (digit (not (ltb best 1))) 1) (best - digit (not (ltb best 1))) a ≡ seek (λ j. j) n row a
    go (yes z) = rw (lt-ltb best 1 (omega arith)) (sym (B.is ∙ rw (eq-eqb best 0 z)))
    go (no z) = rw (le-ltb best 1 (omega arith)) (sym (B.is ∙ rw (ne_eqb best 0 z)))
