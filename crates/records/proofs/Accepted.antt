-- When each call on records is accepted, and what it gives then.
-- Assumes nothing.
use mathlib.Core.Path.{◌≡◌, refl, sym, ap, ◌∙◌}
use mathlib.Core.Bool.{true}
use mathlib.Core.List.{List, [], ◌∷◌}
use Prim.Native.Nat.{ℕ, ◌+◌, ◌-◌, ◌≤◌, ◌<◌}
use native.Mathlib.Omega.{arith}
use native.Mathlib.Decide.{dec_lt}
use lib.Dec.{leb, eqb}
use lib.ListN.{length, get_or, replicate, length-append, length-replicate, get_or-append}
use lib.Seq.{take_at, get_or-append-add}
use borrow.Author.Tests.{le-leb, eq-eqb}
use Rattle.answers.specs.Answers.{accepted}
use Rattle.answers.specs.Questions.{ask, ask_each, first_bad}
use Rattle.answers.proofs.Questions.{asked_yes, none_bad}
use Rattle.permutation.specs.Permutations.{IsPermutation, identity, exchanged, combined, inverted, fixed_points}
use Rattle.records.specs.Records.{record_of, list_of, questions_of, WellFormed, reply, identity_call, from_list_call}
use Rattle.records.specs.Records.{exchange_call, combine_call, inverse_call, fixed_points_call}
use Rattle.records.specs.declared.Permutation.{Permutation}
use Rattle.permutation.proofs.Permutations.{good_when, same_good, permutation_passes}
use Rattle.permutation.proofs.Tables.{get_d_blank}
use Rattle.record_questions.specs.Questions.{good_in_record}
use Rattle.record_questions.proofs.Questions.{good_in_list, good_past}
use Rattle.record_entries.specs.Entries.{padded}
use Rattle.records.proofs.Records.{sound}
use Rattle.records.proofs.Replies.{replies_accepted, identity-done, list_done, exchange_done, combine_done, asking_given, asking_back}

-- ---- the record of a permutation of at most 1,024 places passes questions 1 and 6

pub list_of_record : (es : List ℕ) → list_of (record_of es) ≡ es
unfolding record_of
list_of_record es = take_at es (replicate (1024 - length es) 0) (length es) refl

pub record_room : (es : List ℕ) → length es ≤ 1024 → length (record_of es).entries ≡ 1024
unfolding record_of
record_room es h = simp (length-append, length-replicate) (omega arith)

module _ (n : ℕ) (es : List ℕ) (P : IsPermutation n es) (small : n ≤ 1024) where
  good_all : (i : ℕ) → good_in_record (length es) (padded es) i ≡ true
  good_all i = go (dec_lt i (length es))
    where
      whole : List ℕ
      whole = padded es

      go : Dec (i < length es) → good_in_record (length es) whole i ≡ true
      go (yes l) =
          good_in_list (length es) whole i l
          ∙ same_good (length es) whole es i (λ j m. get_or-append es (replicate (1024 - length es) 0) 0 j (omega arith))
          ∙ good_when (length es) es i (omega (arith, P.whole, P.below i (omega (arith, P.whole))))
          (λ j m q. omega (arith, P.unlike j i (omega (arith, P.whole)) (omega (arith, P.whole)) q))
      go (no l) =
          let e : length es + (i - length es) ≡ i = omega arith in
          let z : get_or whole i 0 ≡ 0 =
          ap (λ k. get_or whole k 0) (sym e) ∙ get_or-append-add es (replicate (1024 - length es) 0) (i - length es) 0 ∙ get_d_blank {A = ℕ} (1024 - length es) (i - length es) 0 in
          good_past (length es) whole i (omega arith) ∙ eq-eqb _ _ z

  pub record_well_formed : WellFormed (record_of es)
  unfolding record_of
  record_well_formed =
      let good = good_in_record (length es) (padded es) in
      let number = ask 6 1024 (eqb (fixed_points es) (fixed_points (list_of (record_of es)))) in
      asked_yes 1 0 (leb (length es) 1024) (ask_each 6 good 1024 ∷ number ∷ []) (le-leb (length es) 1024 (omega (arith, P.whole)))
      ∙ asked_yes 6 (first_bad good 1024) (eqb (first_bad good 1024) 1024) (number ∷ []) (eq-eqb _ _ (none_bad good 1024 (λ i l. good_all i)))
      ∙ asked_yes 6 1024 number.yes [] (eq-eqb _ _ (ap fixed_points (sym (list_of_record es))))

-- ---- when each call is accepted, and what it gives then

-- fresh: every length of at most 1,024
pub identity-accepted : (n : ℕ) → n ≤ 1024 → identity_call n ≡ reply (accepted 0) (record_of (identity n))
identity-accepted n h = sym (identity-done n h refl refl)

-- from a list: every permutation of at most 1,024 places
pub list_accepted : (n : ℕ) (es : List ℕ) → IsPermutation n es → n ≤ 1024 → from_list_call es ≡ reply (accepted 0) (record_of es)
list_accepted n es P h =
    sym (list_done es (omega (arith, P.whole)) refl (omega (arith, permutation_passes n es P)) refl refl)

-- the asking: every record of at most 1,024 places, whatever its entries and its number are
pub fixed_points_accepted : (p : Permutation) → p.length ≤ 1024 → fixed_points_call p ≡ reply (accepted p.fixed) p
fixed_points_accepted p h = sym (asking_back p (asking_given p.length p.fixed h))

-- it is the true number in a record that passes
pub fixed_points_true : (p : Permutation) → length p.entries ≡ 1024 → WellFormed p
    → fixed_points_call p ≡ reply (accepted (fixed_points (list_of p))) p
fixed_points_true p room w =
    let S = sound p room w in
    fixed_points_accepted p S.small ∙ ap (λ c. reply (accepted c) p) S.fixed_true

-- the others: records that pass, places below the length, two of one length
module _ (p : Permutation) (w : WellFormed p) where
  pub exchange_accepted : (i j : ℕ) → i < p.length → j < p.length
      → exchange_call p i j ≡ reply (accepted 0) (record_of (exchanged (list_of p) i j))
  exchange_accepted i j li lj = sym (exchange_done p i j w li lj refl refl)

  pub inverse_accepted : inverse_call p ≡ reply (accepted 0) (record_of (inverted (list_of p)))
  inverse_accepted = sym (replies_accepted (questions_of p) 0 (record_of (inverted (list_of p))) p w refl refl)

  pub combine_accepted : (q : Permutation) → WellFormed q → p.length ≡ q.length
      → combine_call p q ≡ reply (accepted 0) (record_of (combined (list_of p) (list_of q)))
  combine_accepted q x alike = sym (combine_done p q w x alike refl refl)
