-- The table of pairs as its sweeps change it, one pair more at a time.
-- Assumes nothing.
use mathlib.Core.Path.{◌≡◌, refl, sym, ap, ◌∙◌}
use mathlib.Core.Bool.{Bool, true, false, not, cond}
use mathlib.Core.List.{List, ◌++◌}
use Prim.Native.Nat.{ℕ, ◌+◌, ◌*◌, ◌/◌, ◌%◌, ◌≤◌, ◌<◌}
use native.Mathlib.Numerals.{add-one}
use native.Mathlib.Omega.{arith}
use native.Mathlib.Decide.{ℕ_discrete, dec_lt}
use mir.Val.{bool_byte}
use lib.Dec.{ltb, eqb}
use lib.ListN.{length, get_or, set, take, drop, length-set}
use Rattle.std.proofs.Math.ListN.{get_or-append}
use Rattle.std.proofs.lemmas.List.{get_or-take, length-take, set-append_left, take-append-drop}
use lib.Seq.{get_or-set_same, get_or-set_other, set-get_or}
use borrow.Author.Tests.{lt-ltb, le-ltb, eq-eqb, ne_eqb}
use Rattle.answers.specs.Questions.{first_bad}
use Rattle.permutation.proofs.Sweeps.{same_bad}
use Rattle.steps.specs.Sweeps.{store, each}
use Rattle.steps.specs.Steps.{digit}
use Rattle.select.proofs.Numbers.{digit_is, byte_is}
use Rattle.control_rows.specs.Rows.{sixteens}
use Rattle.control_pairs.specs.Pairs.{mark_in, bit_in, bits_in, Numbered, Settled}

-- ---- a number stored at a hidden place

pub store_none : (xs : List ℕ) (p a : ℕ) → xs ≡ store (λ j. j) 0 p a xs
unfolding store
store_none xs p a = rw (le-ltb p 0 (omega arith))

pub store_step : (xs x₀ : List ℕ) (i p a : ℕ) → xs ≡ store (λ j. j) i p a x₀
    → set xs i (cond (eqb i p) a (get_or xs i 0)) ≡ store (λ j. j) (i + 1) p a x₀
unfolding store
store_step xs x₀ i p a e = go (ℕ_discrete i p) (dec_lt p i)
  where
    go : Dec (i ≡ p) → Dec (p < i) → set xs i (cond (eqb i p) a (get_or xs i 0)) ≡ cond (ltb p (i + 1)) (set x₀ p a) x₀
    go (yes q) d =
        let z : xs ≡ x₀ = e ∙ rw (le-ltb p i (omega arith)) in
        rw (eq-eqb i p q, lt-ltb p (i + 1) (omega arith), z, q)
    go (no q) (yes l) = rw (ne_eqb i p q, lt-ltb p (i + 1) (omega arith), set-get_or xs i 0) (e ∙ rw (lt-ltb p i l))
    go (no q) (no l) = rw (ne_eqb i p q, le-ltb p (i + 1) (omega arith), set-get_or xs i 0) (e ∙ rw (le-ltb p i (omega arith)))

-- a place still to come holds what it held
ahead : (xs x₀ : List ℕ) (i p a : ℕ) → xs ≡ store (λ j. j) i p a x₀ → get_or xs i 0 ≡ get_or x₀ i 0
unfolding store
ahead xs x₀ i p a e = rw e (go (dec_lt p i))
  where
    go : Dec (p < i) → get_or (cond (ltb p i) (set x₀ p a) x₀) i 0 ≡ get_or x₀ i 0
    go (yes d) = rw (lt-ltb p i d) (get_or-set_other x₀ p i a 0 (λ q. omega arith))
    go (no d) = rw (le-ltb p i (omega arith))

pub stored_at : (n p a i : ℕ) (x₀ : List ℕ) → n ≤ length x₀ → i < n → get_or (store (λ j. j) n p a x₀) i 0 ≡ cond (eqb i p) a (get_or x₀ i 0)
unfolding store
stored_at n p a i x₀ l h = go (ℕ_discrete i p) (dec_lt p n)
  where
    go : Dec (i ≡ p) → Dec (p < n) → get_or (cond (ltb p n) (set x₀ p a) x₀) i 0 ≡ cond (eqb i p) a (get_or x₀ i 0)
    go (yes e) d = rw (eq-eqb i p e, lt-ltb p n (omega arith), e) (get_or-set_same x₀ p a 0 (omega arith))
    go (no e) (yes d) = rw (ne_eqb i p e, lt-ltb p n d) (get_or-set_other x₀ p i a 0 e)
    go (no e) (no d) = rw (ne_eqb i p e, le-ltb p n (omega arith))

-- ---- pair p of k settled

module _ (k p bit : ℕ) (x₀ : List ℕ) (few : k ≤ 512) (room : sixteens k ≤ length x₀) (b : bit < 2) (N : Numbered k x₀) where
  abbrev pub final : List ℕ
  final = store (λ j. j) (sixteens k) p (p + 1024 + 2048 * bit) x₀

  pub numbered_after : Numbered k final
  unfolding Numbered
  numbered_after i h =
      rw (stored_at (sixteens k) p (p + 1024 + 2048 * bit) i x₀ (omega arith) h) (go (ℕ_discrete i p))
    where
      v : ℕ
      v = p + 1024 + 2048 * bit

      own : i ≡ p → (v % 1024 ≡ i) × (v < 4096)
      own e = (omega arith, omega arith)

      go : Dec (i ≡ p) → (cond (eqb i p) v (get_or x₀ i 0) % 1024 ≡ i) × (cond (eqb i p) v (get_or x₀ i 0) < 4096)
      go (yes e) = rw (eq-eqb i p e) (own e)
      go (no e) = rw (ne_eqb i p e) (N i h)

  -- what the code picks for pair i: so it is stored, and it stands there in the end
  pub settled-pick : (xs : List ℕ) (c i y : ℕ) → c ≡ i → xs ≡ store (λ j. j) i p (p + 1024 + 2048 * bit) x₀
      → y ≡ cond (eqb (bool_byte (eqb c p)) 1) (p + 1024 + 2048 * bit) (get_or xs i 0)
      → y ≡ cond (eqb i p) (p + 1024 + 2048 * bit) (get_or xs i 0)
  settled-pick xs c i y ec e f = f ∙ rw (byte_is (eqb c p), ec)

  pub settled-final : (xs : List ℕ) (c i y : ℕ) → c ≡ i → i < sixteens k → xs ≡ store (λ j. j) i p (p + 1024 + 2048 * bit) x₀
      → y ≡ cond (eqb (bool_byte (eqb c p)) 1) (p + 1024 + 2048 * bit) (get_or xs i 0) → y ≡ get_or final i 0
  settled-final xs c i y ec h e f =
      let v : ℕ = p + 1024 + 2048 * bit in
      settled-pick xs c i y ec e f
      ∙ ap (cond (eqb i p) v) (ahead xs x₀ i p v e)
      ∙ sym (stored_at (sixteens k) p v i x₀ (omega arith) h)

-- ---- the sweep changes the front of the table, whole sixteens of pairs

pub front_numbered : (k n : ℕ) (xs : List ℕ) → n ≡ sixteens k → Numbered k xs → Numbered k (take n xs)
unfolding Numbered
front_numbered k n xs e N i h = rw (get_or-take n xs i 0 (omega arith)) (N i h)

pub front_settled : (k p bit n low : ℕ) (xs ys : List ℕ) → n ≡ sixteens k → n ≤ length xs
    → ys ≡ store (λ j. j) n p (p + 1024 + 2048 * bit) (take n xs) → low ≡ first_bad (mark_in ys) k → Settled k p bit xs (ys ++ drop n xs) low
unfolding store
front_settled k p bit n low xs ys e l f g = record {
  pairs = rw (← e) (whole (dec_lt p n));
  lowest = g ∙ same_bad (mark_in ys) (mark_in (ys ++ drop n xs)) k (λ i h. rw (get_or-append ys (drop n xs) 0 i (omega (arith, long))));
}
  where
    v : ℕ
    v = p + 1024 + 2048 * bit

    front : length (take n xs) ≡ n
    front = omega (arith, length-take n xs)

    long : length ys ≡ n
    long = elim (dec_lt p n) [
      | yes h ↦ rw (f, lt-ltb p n h) (omega (arith, front, length-set (take n xs) p v))
      | no h ↦ rw (f, le-ltb p n (omega arith)) front
    ]

    whole : Dec (p < n) → ys ++ drop n xs ≡ cond (ltb p n) (set xs p v) xs
    whole (yes h) =
        rw (f, lt-ltb p n h, ← set-append_left (take n xs) (drop n xs) p v (omega (arith, front)), take-append-drop n xs)
    whole (no h) = rw (f, le-ltb p n (omega arith), take-append-drop n xs)

-- ---- the bits given, one more at a time

pub bits_none : (b : ℕ) (pairs bits : List ℕ) → bits ≡ bits_in b 0 pairs bits
unfolding bits_in each
bits_none b pairs bits = refl

pub bits_step : (b i : ℕ) (pairs bits b₀ : List ℕ) (v : ℕ) → bits ≡ bits_in b i pairs b₀
    → v ≡ cond (mark_in pairs i) (bit_in pairs i) (get_or bits (b + i) 0) → set bits (b + i) v ≡ bits_in b (i + 1) pairs b₀
unfolding bits_in each
bits_step b i pairs bits b₀ v e f = rw (f, e, add-one i)

-- what the code picks for a bit
pub given-bit : (x old o s v : ℕ) → o ≡ old → s ≡ digit (ltb x 1024) → v ≡ cond (eqb s 1) o (x / 2048)
    → v ≡ cond (not (ltb x 1024)) (x / 2048) old
given-bit x old o s v eo e f = f ∙ rw (e, digit_is (ltb x 1024), eo) (go (ltb x 1024))
  where
    go : (b : Bool) → cond b old (x / 2048) ≡ cond (not b) (x / 2048) old
    go true = refl
    go false = refl

pub given_small : (b : Bool) (x old : ℕ) → x < 4096 → old < 256 → cond b old (x / 2048) < 256
given_small true x old h l = l
given_small false x old h l = omega arith
