-- Choosing the words, as the loop does it.
-- Assumes nothing.
use mathlib.Core.Path.{◌≡◌, refl, sym, ap, ◌∙◌}
use mathlib.Core.Bool.{Bool, true, false}
use mathlib.Core.List.{List, [], ◌∷◌, ◌++◌, append-nil}
use Prim.Native.Nat.{ℕ, suc, ◌+◌, ◌-◌, ◌≤◌, ◌<◌}
use native.Mathlib.Nat.{add-zero}
use native.Mathlib.Numerals.{add-one}
use native.Mathlib.Omega.{arith}
use lib.ListN.{length, get_or, take, drop, set, length-set, drop_of_length-le}
use borrow.Author.Tests.{lt-ltb, le-ltb}
use lib.Seq.{drop-cons, take-suc-set, take-set-le, append_snoc}
use Rattle.permutation.specs.Permutations.{bit}
use Rattle.permutation.proofs.Sweeps.{bit_small}
use Rattle.std.specs.Prelude.{Some, None}
use Rattle.shuffle_fair.specs.Words.{limit, fit, Chosen, enough_with, takes, skips, chosen}
use Rattle.shuffle_fair.specs.Choosing.{Chose}
use Rattle.answers.proofs.Questions.{never}
use Rattle.shuffle_fair.proofs.Words.{chosen-takes, chosen-skips}

-- words taken and words used before others
abbrev behind : List ℕ → ℕ → Chosen → Chosen
behind front used rest = record { taken = front ++ rest.taken; used = used + rest.used; enough = rest.enough }

-- i words are taken, of so many used; the rest is what the words left give for the places left
pub record Choosing (n : ℕ) (words before kept : List ℕ) (i used : ℕ) : Type 0 where
  pub within : i ≤ n
  pub most : used ≤ length words
  pub same : length kept ≡ length before
  pub whole : chosen n words ≡ behind (take i kept) used (chosen (n - i) (drop used words))

module _ (n : ℕ) (words before : List ℕ) where
  pub choosing_starts : {used : ℕ} → used ≡ 0 → Choosing n words before before 0 used
  choosing_starts e =
      let z : n - 0 ≡ n = omega arith in
      let u : 0 + (chosen n words).used ≡ (chosen n words).used = omega arith in
      record { within = omega arith; most = omega arith; same = refl; whole = rw (e, z, u) }

  module _ {kept : List ℕ} {i used : ℕ} (C : Choosing n words before kept i used) where
    -- one word more
    module _ (h : i < n) (l : used < length words) (room : n ≤ length before) where
      abbrev word : ℕ
      word = get_or words used 0

      abbrev rest : List ℕ
      rest = drop (used + 1) words

      left : n - i ≡ suc (n - suc i)
      left = omega arith

      next : chosen (n - i) (drop used words) ≡ chosen (suc (n - suc i)) (word ∷ rest)
      next = rw (left, add-one) (ap (chosen (suc (n - suc i))) (drop-cons words used 0 l))

      -- it is taken, or skipped
      step : (b : Bool) → fit (n - i) word ≡ b
          → chosen n words ≡ behind (take (i + bit b) (set kept i word)) (used + 1) (chosen (n - (i + bit b)) rest)
      unfolding chosen
      step true t =
          let d = n - suc i in
          let fits : fit (suc d) word ≡ true = rw left at t in
          let one : chosen (suc d) (word ∷ rest) ≡ takes word (chosen d rest) = chosen-takes d word rest fits in
          let front : take (i + 1) (set kept i word) ≡ take i kept ++ (word ∷ []) =
          rw (add-one i) (take-suc-set kept i word (omega (arith, C.same)))
          in
          let places : n - (i + 1) ≡ d = omega arith in
          let count : used + suc (chosen d rest).used ≡ used + 1 + (chosen d rest).used = omega arith in
          C.whole
          ∙ ap (behind (take i kept) used) (next ∙ one)
          ∙ rw (front, places, count, append_snoc (take i kept) word (chosen d rest).taken)
      step false t =
          let d = n - suc i in
          let unfit : fit (suc d) word ≡ false = rw left at t in
          let one : chosen (suc d) (word ∷ rest) ≡ skips (chosen (suc d) rest) = chosen-skips d word rest unfit in
          let places : n - (i + 0) ≡ suc d = omega arith in
          let count : used + suc (chosen (suc d) rest).used ≡ used + 1 + (chosen (suc d) rest).used = omega arith in
          C.whole
          ∙ ap (behind (take i kept) used) (next ∙ one)
          ∙ rw (places, count, add-zero i, take-set-le i kept i word (omega arith))

      pub choosing_more : {t : ℕ} → t ≡ bit (fit (n - i) word) → Choosing n words before (set kept i word) (i + t) (used + 1)
      choosing_more e =
          rw e
          record {
            within = omega (arith, bit_small (fit (n - i) word));
            most = omega arith;
            same = length-set kept i word ∙ C.same;
            whole = step (fit (n - i) word) refl;
          }

    pub choosing_ends : n ≤ i → Chose n words kept (Some used)
    unfolding chosen
    choosing_ends h =
        let e : i ≡ n = omega (arith, C.within) in
        let z : n - n ≡ 0 = omega arith in
        let is : chosen n words ≡ enough_with (take n kept) used = C.whole ∙ rw (e, z, add-zero used, append-nil (take n kept)) in
        record { asked = rw is; used = rw is; taken = λ y. ap (λ (c : Chosen). c.taken) is }

    pub choosing_fails : i < n → length words ≤ used → Chose n words kept None
    unfolding chosen
    choosing_fails h l =
        let left : n - i ≡ suc (n - suc i) = omega arith in
        let none : (chosen n words).enough ≡ false =
        ap (λ (c : Chosen). c.enough) C.whole ∙ rw (left, drop_of_length-le words {i = used} l)
        in
        record { asked = rw none; used = rw none; taken = λ y. absurd (never y) }
