-- An argument's digits, one at a time.
-- Assumes nothing.
use mathlib.Core.Path.{◌≡◌, refl, sym, ap, ◌∙◌}
use mathlib.Core.List.{List, [], ◌∷◌}
use Prim.Native.Nat.{ℕ, suc, ◌+◌, ◌-◌, ◌*◌, ◌≤◌, ◌<◌, min}
use native.Mathlib.Numerals.{add-one}
use native.Mathlib.Omega.{arith}
use borrow.Author.Tests.{le-leb, lt-leb}
use lib.ListN.{length, get_or, drop, drop_of_length-le}
use lib.Seq.{drop-cons}
use Rattle.std.specs.Prelude.{Some, None}
use Rattle.cmd_arguments.specs.Decimal.{most, value_on, decimal_in}

-- ---- a number

pub none : (text : List ℕ) → length text ≡ 0 → None ≡ decimal_in text
unfolding decimal_in
none [] e = refl
none (b ∷ bs) e = absurd (omega arith)

some : (text : List ℕ) → (length text ≡ 0 → ⊥) → decimal_in text ≡ value_on 0 text
unfolding decimal_in
some [] n = absurd (n refl)
some (b ∷ bs) n = refl

-- what the loop keeps: what is left of the text is the rest of the job
pub record Reading (text : List ℕ) (v i : ℕ) : Type 0 where
  pub within : i ≤ length text
  pub small : v ≤ most
  pub left : decimal_in text ≡ value_on v (drop i text)

pub starts : (text : List ℕ) → (length text ≡ 0 → ⊥) → Reading text 0 0
starts text n = record { within = omega arith; small = omega arith; left = some text n }

module _ (text : List ℕ) {v i : ℕ} (R : Reading text v i) where
  pub ends : length text ≤ i → Some v ≡ decimal_in text
  unfolding value_on
  ends h = sym (R.left ∙ ap (value_on v) (drop_of_length-le text {i = i} h))

  module _ (l : i < length text) {b : ℕ} (e : b ≡ get_or text i 0) where
    next : decimal_in text ≡ value_on v (b ∷ drop (suc i) text)
    next = R.left ∙ ap (value_on v) (drop-cons text i 0 l ∙ rw e)

    pub below : b < 48 → None ≡ decimal_in text
    unfolding value_on
    below h = sym (next ∙ rw (value_on, lt-leb 48 b h))

    pub above : 48 ≤ b → 57 < b → None ≡ decimal_in text
    unfolding value_on
    above g h = sym (next ∙ rw (value_on, le-leb 48 b g, lt-leb b 57 h))

    pub more : {w : ℕ} → 48 ≤ b → b ≤ 57 → w ≡ min (v * 10 + (b - 48)) most → Reading text w (i + 1)
    unfolding value_on
    more {w} g h c =
        record {
          within = omega arith;
          small = omega (arith, c);
          left = next ∙ rw (value_on, le-leb 48 b g, le-leb b 57 h, ← c, add-one i);
        }
