-- Questions 1 and 6 of what a record holds, return by return.
-- Assumes nothing.
use mathlib.Core.Path.{◌≡◌, sym, ap, ◌∙◌}
use mathlib.Core.Logic.{◌≢◌}
use mathlib.Core.List.{List}
use Prim.Native.Nat.{ℕ, ◌≤◌, ◌<◌}
use native.Mathlib.Omega.{arith}
use lib.Dec.{eqb}
use lib.ListN.{length, get_or, take}
use lib.Seq.{length-take-le, get_or-take}
use borrow.Author.Tests.{le-leb, lt-leb, lt-ltb, le-ltb, eq-eqb, ne_eqb}
use Rattle.answers.specs.Answers.{refusal, accepted}
use Rattle.answers.specs.Questions.{first_bad, first_no}
use Rattle.answers.specs.Outcomes.{answer_of}
use Rattle.answers.proofs.Questions.{bad_within}
use Rattle.permutation.specs.Permutations.{good_entry, first_bad_entry, fixed_points}
use Rattle.permutation.proofs.Sweeps.{same_bad}
use Rattle.permutation.proofs.Permutations.{same_good}
use Rattle.record_questions.specs.Questions.{good_in_record, record_asks}

module _ (n : ℕ) (es : List ℕ) where
  -- ---- question 6 of the entries: first of the list, then past it

  pub good_in_list : (i : ℕ) → i < n → good_in_record n es i ≡ good_entry n es i
  unfolding good_in_record
  good_in_list i l = rw (lt-ltb i n l)

  pub good_past : (i : ℕ) → n ≤ i → good_in_record n es i ≡ eqb (get_or es i 0) 0
  unfolding good_in_record
  good_past i l = rw (le-ltb i n l)

  pub front-bad : n ≤ length es → first_bad_entry (take n es) ≡ first_bad (good_in_record n es) n
  front-bad h =
      let e : length (take n es) ≡ n = length-take-le n es h in
      ap (λ k. first_bad (good_entry k (take n es)) k) e
      ∙ same_bad (good_entry n (take n es)) (good_in_record n es) n
      (λ i l. same_good n (take n es) es i (λ j m. get_or-take n es j 0 (omega arith)) ∙ sym (good_in_list i l))

  -- ---- all of them

  module _ (fixed : ℕ) where
    pub examined_large : 1024 < n → refusal 1 0 ≡ answer_of (first_no (record_asks n es fixed)) 0
    examined_large l = rw (lt-leb _ _ l)

    module _ (small : n ≤ 1024) {low : ℕ} (e : low ≡ first_bad (good_in_record n es) 1024) where
      pub examined_bad : low < 1024 → refusal 6 low ≡ answer_of (first_no (record_asks n es fixed)) 0
      examined_bad l = rw (le-leb _ _ small, ← e, ne_eqb low 1024 (λ q. omega arith))

      module _ (l : 1024 ≤ low) {home : ℕ} (h : home ≡ fixed_points (take n es)) where
        all_passed : first_bad (good_in_record n es) 1024 ≡ 1024
        all_passed = omega (arith, bad_within (good_in_record n es) 1024)

        pub examined_number : fixed ≢ home → refusal 6 1024 ≡ answer_of (first_no (record_asks n es fixed)) 0
        examined_number m = rw (le-leb _ _ small, eq-eqb _ _ all_passed, ← h, ne_eqb _ _ m)

        pub examined_good : fixed ≡ home → accepted 0 ≡ answer_of (first_no (record_asks n es fixed)) 0
        examined_good m = rw (le-leb _ _ small, eq-eqb _ _ all_passed, ← h, eq-eqb _ _ m)
