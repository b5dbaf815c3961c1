-- A record that would pass with its true number and carries another: 6 at 1,024, from each operation that asks (02, F-2).
-- Assumes nothing.
use mathlib.Core.Path.{◌≡◌, refl, sym, ◌∙◌}
use mathlib.Core.Logic.{◌≢◌}
use mathlib.Core.Bool.{◌&&◌}
use mathlib.Core.List.{[], ◌∷◌, ◌++◌}
use Prim.Native.Nat.{ℕ}
use lib.Dec.{leb, ltb, eqb}
use borrow.Author.Tests.{ne_eqb}
use Rattle.answers.specs.Answers.{refusal}
use Rattle.answers.specs.Questions.{Question, ask, ask_each, first_bad, no_at, first_no}
use Rattle.answers.proofs.Questions.{asked_yes, asked_no, asked-first, asked-both, passed}
use Rattle.permutation.specs.Permutations.{exchanged, combined, inverted, fixed_points}
use Rattle.record_questions.specs.Questions.{good_in_record}
use Rattle.records.specs.Records.{record_of, list_of, questions_of, WellFormed, corrected, exchange_asks, combine_asks}
use Rattle.records.specs.Records.{reply, exchange_call, combine_call, inverse_call}
use Rattle.records.specs.declared.Permutation.{Permutation}
use Rattle.records.proofs.Replies.{replies_refused}

module _ (p : Permutation) (w : WellFormed (corrected p)) (wrong : p.fixed ≢ fixed_points (list_of p)) where
  stops : first_no (questions_of p) ≡ no_at 6 1024
  stops =
      let good = good_in_record p.length p.entries in
      let entries = ask_each 6 good 1024 in
      let number : ℕ → Question = λ c. ask 6 1024 (eqb c (fixed_points (list_of p))) in
      let a = passed 1 0 (leb p.length 1024) (entries ∷ number (fixed_points (list_of p)) ∷ []) w in
      let b = passed 6 (first_bad good 1024) entries.yes (number (fixed_points (list_of p)) ∷ []) a.rest in
      asked_yes 1 0 (leb p.length 1024) (entries ∷ number p.fixed ∷ []) a.here
      ∙ asked_yes 6 (first_bad good 1024) entries.yes (number p.fixed ∷ []) b.here
      ∙ asked_no 6 1024 (eqb p.fixed (fixed_points (list_of p))) [] (ne_eqb _ _ wrong)

  pub exchange_refused : (i j : ℕ) → exchange_call p i j ≡ reply (refusal 6 1024) p
  exchange_refused i j =
      sym
      (replies_refused (exchange_asks p i j) 0 (record_of (exchanged (list_of p) i j)) p
      (asked-first (questions_of p) (ask 14 0 (ltb i p.length && ltb j p.length) ∷ []) stops) refl refl)

  pub inverse_refused : inverse_call p ≡ reply (refusal 6 1024) p
  inverse_refused = sym (replies_refused (questions_of p) 0 (record_of (inverted (list_of p))) p stops refl refl)

  -- as the first record, whatever the second is; as the second, where the first passes, which comes back
  module _ (q : Permutation) where
    pub combine_refused : combine_call p q ≡ reply (refusal 6 1024) p
    combine_refused =
        sym
        (replies_refused (combine_asks p q) 0 (record_of (combined (list_of p) (list_of q))) p
        (asked-first (questions_of p) (questions_of q ++ (ask 15 0 (eqb p.length q.length) ∷ [])) stops) refl refl)

    pub combine_second_refused : WellFormed q → combine_call q p ≡ reply (refusal 6 1024) q
    combine_second_refused x =
        let last = ask 15 0 (eqb q.length p.length) ∷ [] in
        sym
        (replies_refused (combine_asks q p) 0 (record_of (combined (list_of q) (list_of p))) q
        (asked-both (questions_of q) (questions_of p ++ last) x ∙ asked-first (questions_of p) last stops) refl refl)
