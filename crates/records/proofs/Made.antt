-- The number that a record carries is true in every record that accepted operations made (02, F-2).
-- Assumes nothing.
use mathlib.Core.Path.{◌≡◌, sym, ap, ◌∙◌, subst}
use mathlib.Core.Bool.{◌&&◌}
use mathlib.Core.List.{List, [], ◌∷◌, ◌++◌}
use Prim.Native.Nat.{ℕ, ◌≤◌}
use native.Mathlib.Omega.{arith}
use lib.Dec.{ltb, eqb}
use lib.ListN.{length}
use borrow.Author.Tests.{ltb-true, eqb-true}
use Rattle.answers.specs.Answers.{accepted}
use Rattle.answers.specs.Questions.{Question, ask, all_yes, first_no, Numbered}
use Rattle.answers.proofs.Outcomes.{numbered_both, accepted_when}
use Rattle.answers.proofs.Questions.{passed, each_yes, both_pass}
use Rattle.permutation.specs.Permutations.{IsPermutation, identity, exchanged, combined, inverted, fixed_points}
use Rattle.permutation.proofs.Permutations.{both_true}
use Rattle.permutation.proofs.Laws.{identity_permutation, exchanged_permutation, combined_permutation}
use Rattle.permutation.proofs.Inverses.{inverted_permutation}
use Rattle.questions.proofs.Asked.{few_means, order_means}
use Rattle.records.specs.Records.{record_of, list_of, length_asks, questions_of, exchange_asks, combine_asks}
use Rattle.records.specs.Records.{from_list_asks, record_after, replied, reply, identity_call, from_list_call}
use Rattle.records.specs.Records.{exchange_call, combine_call, inverse_call, fixed_points_call}
use Rattle.records.specs.Made.{Gives, Handed, Whole, Made, by_identity, by_list, by_exchange, by_combine, by_inverse, by_asking}
use Rattle.records.specs.declared.Permutation.{Permutation}
use Rattle.records.specs.declared.Reply.{Reply}
use Rattle.records.proofs.Records.{sound}
use Rattle.records.proofs.Replies.{record_numbered}
use Rattle.records.proofs.Accepted.{record_room, record_well_formed, list_accepted, fixed_points_true}

-- ---- what an accepted call gave

record Gave (qs : List Question) (result p : Permutation) : Type 0 where
  pub passed : first_no qs ≡ all_yes
  pub is : p ≡ result

gave : (qs : List Question) (count : ℕ) (result handed : Permutation) {p : Permutation} → Numbered qs
    → Gives (replied qs count result handed) p
    → Gave qs result p
unfolding replied
gave qs count result handed numbered g =
    let a : first_no qs ≡ all_yes = accepted_when qs count numbered g.accepted in
    record { passed = a; is = sym g.gives ∙ ap (λ v. record_after v result handed) a }

whole_of : (n : ℕ) (es : List ℕ) {p : Permutation} → IsPermutation n es → n ≤ 1024 → p ≡ record_of es → Whole p
whole_of n es P h e =
    subst Whole (sym e) (record { room = record_room es (omega (arith, P.whole)); well_formed = record_well_formed n es P h })

-- ---- each operation gives such a record whenever it is accepted

pub identity_gives : (n : ℕ) {p : Permutation} → Gives (identity_call n) p → Whole p
identity_gives n g =
    let G = gave (length_asks n) 0 (record_of (identity n)) (record_of []) (omega arith, tt) g in
    whole_of n (identity n) (identity_permutation n) (few_means n (each_yes (length_asks n) G.passed).0) G.is

pub list_gives : (es : List ℕ) {p : Permutation} → Gives (from_list_call es) p → Whole p
list_gives es g =
    let G = gave (from_list_asks es) 0 (record_of es) (record_of []) (omega arith, (omega arith, tt)) g in
    let y = each_yes (from_list_asks es) G.passed in
    whole_of (length es) es (order_means es y.1.0) (few_means (length es) y.0) G.is

module _ (q : Permutation) (room : Handed q) {p : Permutation} where
  pub inverse_gives : Gives (inverse_call q) p → Whole p
  inverse_gives g =
      let G = gave (questions_of q) 0 (record_of (inverted (list_of q))) q (record_numbered q) g in
      let S = sound q room G.passed in
      whole_of q.length (inverted (list_of q)) (inverted_permutation q.length (list_of q) S.permutation) S.small G.is

  pub exchange_gives : (i j : ℕ) → Gives (exchange_call q i j) p → Whole p
  exchange_gives i j g =
      let within = ltb i q.length && ltb j q.length in
      let numbered = numbered_both (questions_of q) (ask 14 0 within ∷ []) (record_numbered q) (omega arith, tt) in
      let G = gave (exchange_asks q i j) 0 (record_of (exchanged (list_of q) i j)) q numbered g in
      let B = both_pass (questions_of q) (ask 14 0 within ∷ []) G.passed in
      let both = both_true (ltb i q.length) (ltb j q.length) (passed 14 0 within [] B.second).here in
      let S = sound q room B.first in
      let P = exchanged_permutation i j q.length (list_of q) S.permutation (ltb-true _ _ both.0) (ltb-true _ _ both.1) in
      whole_of q.length (exchanged (list_of q) i j) P S.small G.is

  pub combine_gives : (r : Permutation) → Handed r → Gives (combine_call q r) p → Whole p
  combine_gives r room-r g =
      let last = ask 15 0 (eqb q.length r.length) ∷ [] in
      let numbered = numbered_both (questions_of q) (questions_of r ++ last) (record_numbered q)
      (numbered_both (questions_of r) last (record_numbered r) (omega arith, tt)) in
      let G = gave (combine_asks q r) 0 (record_of (combined (list_of q) (list_of r))) q numbered g in
      let B = both_pass (questions_of q) (questions_of r ++ last) G.passed in
      let C = both_pass (questions_of r) last B.second in
      let alike : q.length ≡ r.length = eqb-true _ _ (passed 15 0 (eqb q.length r.length) [] C.second).here in
      let S = sound q room B.first in
      let R : IsPermutation q.length (list_of r) =
      subst (λ (n : ℕ). IsPermutation n (list_of r)) (sym alike) (sound r room-r C.first).permutation in
      let P = combined_permutation q.length (list_of q) S.permutation (list_of r) R in
      whole_of q.length (combined (list_of q) (list_of r)) P S.small G.is

-- the asking gives the record that it was handed
asking_gives : (q : Permutation) {p : Permutation} → Gives (fixed_points_call q) p → q ≡ p
asking_gives q g = sym (gave (length_asks q.length) q.fixed q q (omega arith, tt) g).is

-- ---- so every made record is such a one, and its number is true

pub made_whole : {p : Permutation} → Made p → Whole p
made_whole (by_identity n g) = identity_gives n g
made_whole (by_list es g) = list_gives es g
made_whole (by_exchange q i j h g) = exchange_gives q h i j g
made_whole (by_combine q r h k g) = combine_gives q h r k g
made_whole (by_inverse q h g) = inverse_gives q h g
made_whole (by_asking q m g) = subst Whole (asking_gives q g) (made_whole m)

pub made_true : {p : Permutation} → Made p → fixed_points_call p ≡ reply (accepted (fixed_points (list_of p))) p
made_true {p} m = let W = made_whole m in fixed_points_true p W.room W.well_formed

-- and every permutation of at most 1,024 places has a made record
pub permutation_made : (n : ℕ) (es : List ℕ) → IsPermutation n es → n ≤ 1024 → Made (record_of es)
permutation_made n es P h =
    let a = list_accepted n es P h in
    by_list es (record { accepted = ap (λ (r : Reply). r.answer.number) a; gives = ap (λ (r : Reply). r.permutation) a })
