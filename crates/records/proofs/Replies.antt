-- What a call on records gives, return by return.
-- Assumes nothing.
use mathlib.Core.Path.{◌≡◌, refl, ◌∙◌}
use mathlib.Core.Logic.{◌≢◌}
use mathlib.Core.Bool.{◌&&◌}
use mathlib.Core.List.{List, [], ◌∷◌, ◌++◌}
use Prim.Native.Nat.{ℕ, ◌≤◌, ◌<◌}
use native.Mathlib.Omega.{arith}
use lib.Dec.{ltb, eqb}
use lib.ListN.{length}
use borrow.Author.Tests.{le-leb, lt-leb, le-ltb, lt-ltb, eq-eqb, ne_eqb}
use Rattle.answers.specs.declared.Answer.{Answer}
use Rattle.std.specs.Prelude.{Ok, Err}
use Rattle.answers.specs.declared.Refusal.{Refusal}
use Rattle.answers.specs.Answers.{refusal, accepted, number_of, answer_with}
use Rattle.answers.specs.Questions.{Question, ask, Verdict, all_yes, no_at, first_no, Numbered}
use Rattle.answers.specs.Outcomes.{answer_of}
use Rattle.answers.proofs.Results.{err_no, ok_yes}
use Rattle.answers.proofs.Questions.{asked_yes, asked_no, yes_each, asked-both, asked-first, bad_within}
use Rattle.permutation.specs.Permutations.{good_entry, first_bad_entry, tabulate, identity, exchanged, combined}
use Rattle.questions.proofs.Lists.{first_no_lem}
use Rattle.questions.proofs.Asked.{few_yes, few_no, order_yes, order_no}
use Rattle.records.specs.Records.{record_of, list_of, length_asks, questions_of, WellFormed, exchange_asks, combine_asks, from_list_asks}
use Rattle.records.specs.Records.{reply, reply_from, record_after, replied, identity_call, from_list_call, exchange_call, combine_call, fixed_points_call}
use Rattle.records.specs.declared.Permutation.{Permutation}

module _ (qs : List Question) (count : ℕ) (result handed : Permutation) {a : Answer} {p : Permutation} where
  pub replies_refused : {q k : ℕ} → first_no qs ≡ no_at q k → a ≡ refusal q k → p ≡ handed → reply a p ≡ replied qs count result handed
  unfolding replied
  replies_refused e r g = rw (e, r, g)

  pub replies_accepted : first_no qs ≡ all_yes → a ≡ accepted count → p ≡ result → reply a p ≡ replied qs count result handed
  unfolding replied
  replies_accepted e r g = rw (e, r, g)

-- the questions have numbers
pub record_numbered : (p : Permutation) → Numbered (questions_of p)
record_numbered p = (omega arith, (omega arith, (omega arith, tt)))

-- a record whose questions gave no refusal passed them
pub passed_record : (p : Permutation) (x : Unit {0}) → answer_with (λ (u : Unit {0}). 0) (Ok x) ≡ answer_of (first_no (questions_of p)) 0 → WellFormed p
passed_record p x e = ok_yes (λ (u : Unit {0}). 0) (questions_of p) (record_numbered p) x 0 e

-- what a call gives that asked its questions: the record that it made, or the one that it gives back
module _ (qs : List Question) (result handed : Permutation) where
  pub made_reply : Numbered qs → (x : Unit {0}) → answer_with (λ (u : Unit {0}). 0) (Ok x) ≡ answer_of (first_no qs) 0
      → reply_from (Ok result) result ≡ replied qs 0 result handed
  made_reply n x e = replies_accepted qs 0 result handed (ok_yes (λ (u : Unit {0}). 0) qs n x 0 e) refl refl

  pub refused_reply : (r : Refusal) → answer_with (λ (u : Unit {0}). 0) (Err r) ≡ answer_of (first_no qs) 0
      → reply_from (Err r) handed ≡ replied qs 0 result handed
  refused_reply r e = replies_refused qs 0 result handed (err_no (λ (u : Unit {0}). 0) r (first_no qs) 0 e) refl refl

-- the questions of a list that passes
pub list_passes : (es : List ℕ) {low : ℕ} → length es ≤ 1024 → low ≡ first_bad_entry es → length es ≤ low → first_no (from_list_asks es) ≡ all_yes
list_passes es small f l =
    let z : first_bad_entry es ≡ length es = omega (arith, bad_within (good_entry (length es) es) (length es)) in
    yes_each (from_list_asks es) (few_yes (length es) small, (order_yes es z, tt))

-- ---- the asking, which looks at the length and the number alone

module _ (length fixed : ℕ) where
  pub asking_large : 1024 < length → refusal 1 0 ≡ answer_of (first_no (length_asks length)) fixed
  asking_large l = rw (lt-leb _ _ l)

  pub asking_given : length ≤ 1024 → accepted fixed ≡ answer_of (first_no (length_asks length)) fixed
  asking_given h = rw (le-leb _ _ h)

-- it gives the record back, accepted or refused
pub asking_back : (p : Permutation) {a : Answer} → a ≡ answer_of (first_no (length_asks p.length)) p.fixed
    → reply a p ≡ fixed_points_call p
unfolding replied
asking_back p e = rw (e, back (first_no (length_asks p.length)))
  where
    back : (v : Verdict) → record_after v p p ≡ p
    back all_yes = refl
    back (no_at q k) = refl

-- ---- a call's questions about the records it is handed, and the last one

pub empty_record : record_of (identity 0) ≡ record_of []
unfolding tabulate
empty_record = refl

-- the questions of a record refused: they stopped there
refused_at : (p : Permutation) (r : Refusal) → answer_with (λ (u : Unit {0}). 0) (Err r) ≡ answer_of (first_no (questions_of p)) 0
    → first_no (questions_of p) ≡ no_at (number_of r.reason) r.place
refused_at p r e = err_no (λ (u : Unit {0}). 0) r (first_no (questions_of p)) 0 e

module _ (count : ℕ) (result : Permutation) (p : Permutation) (r : Refusal) where
  -- the first record stops the call
  pub first_stops : (rs : List Question) → answer_with (λ (u : Unit {0}). 0) (Err r) ≡ answer_of (first_no (questions_of p)) 0
      → reply_from (Err r) p ≡ replied (questions_of p ++ rs) count result p
  first_stops rs e = replies_refused (questions_of p ++ rs) count result p (asked-first (questions_of p) rs (refused_at p r e)) refl refl

  -- the second record stops it
  pub second_stops : (q : Permutation) (rs : List Question) → WellFormed p → answer_with (λ (u : Unit {0}). 0) (Err r) ≡ answer_of (first_no (questions_of q)) 0
      → reply_from (Err r) p ≡ replied (questions_of p ++ (questions_of q ++ rs)) count result p
  second_stops q rs w e =
      replies_refused (questions_of p ++ (questions_of q ++ rs)) count result p
      (asked-both (questions_of p) (questions_of q ++ rs) w ∙ asked-first (questions_of q) rs (refused_at q r e)) refl refl

-- 14, then 15
exchange_asks_lem : (p : Permutation) (i j : ℕ) → WellFormed p → first_no (exchange_asks p i j) ≡ first_no (ask 14 0 (ltb i p.length && ltb j p.length) ∷ [])
exchange_asks_lem p i j w = asked-both (questions_of p) (ask 14 0 (ltb i p.length && ltb j p.length) ∷ []) w

combine_asks_lem : (p q : Permutation) → WellFormed p → WellFormed q → first_no (combine_asks p q) ≡ first_no (ask 15 0 (eqb p.length q.length) ∷ [])
combine_asks_lem p q w x =
    asked-both (questions_of p) (questions_of q ++ (ask 15 0 (eqb p.length q.length) ∷ [])) w
    ∙ asked-both (questions_of q) (ask 15 0 (eqb p.length q.length) ∷ []) x

module _ (p : Permutation) (i j : ℕ) {a : Answer} (w : WellFormed p) where
  pub exchange_first : p.length ≤ i → a ≡ refusal 14 0 → reply a p ≡ exchange_call p i j
  exchange_first l e = replies_refused _ _ _ _ (exchange_asks_lem p i j w ∙ asked_no 14 0 (ltb i p.length && ltb j p.length) [] (rw (le-ltb i p.length l))) e refl

  pub exchange_second : i < p.length → p.length ≤ j → a ≡ refusal 14 0 → reply a p ≡ exchange_call p i j
  exchange_second k l e =
      replies_refused _ _ _ _ (exchange_asks_lem p i j w ∙ asked_no 14 0 (ltb i p.length && ltb j p.length) [] (rw (lt-ltb i p.length k, le-ltb j p.length l))) e refl

  pub exchange_done : {r : Permutation} → i < p.length → j < p.length → a ≡ accepted 0 → r ≡ record_of (exchanged (list_of p) i j)
      → reply a r ≡ exchange_call p i j
  exchange_done k l e g =
      replies_accepted _ _ _ _ (exchange_asks_lem p i j w ∙ asked_yes 14 0 (ltb i p.length && ltb j p.length) [] (rw (lt-ltb i p.length k, lt-ltb j p.length l))) e g

module _ (p q : Permutation) {a : Answer} (w : WellFormed p) (x : WellFormed q) where
  pub combine_unlike : p.length ≢ q.length → a ≡ refusal 15 0 → reply a p ≡ combine_call p q
  combine_unlike n e = replies_refused _ _ _ _ (combine_asks_lem p q w x ∙ asked_no 15 0 _ [] (ne_eqb _ _ n)) e refl

  pub combine_done : {r : Permutation} → p.length ≡ q.length → a ≡ accepted 0 → r ≡ record_of (combined (list_of p) (list_of q)) → reply a r ≡ combine_call p q
  combine_done k e g = replies_accepted _ _ _ _ (combine_asks_lem p q w x ∙ asked_yes 15 0 _ [] (eq-eqb _ _ k)) e g

-- ---- calls that are handed no record

module _ (n : ℕ) {a : Answer} {p : Permutation} where
  pub identity_large : 1024 < n → a ≡ refusal 1 0 → p ≡ record_of (identity 0) → reply a p ≡ identity_call n
  identity_large l e g = replies_refused _ _ _ _ (first_no_lem 0 (length_asks n) (few_no n l)) e (g ∙ empty_record)

  pub identity-done : n ≤ 1024 → a ≡ accepted 0 → p ≡ record_of (identity n) → reply a p ≡ identity_call n
  identity-done l e g = replies_accepted _ _ _ _ (yes_each (length_asks n) (few_yes n l, tt)) e g

module _ (es : List ℕ) {a : Answer} {p : Permutation} where
  pub list_large : 1024 < length es → a ≡ refusal 1 0 → p ≡ record_of (identity 0) → reply a p ≡ from_list_call es
  list_large l e g = replies_refused _ _ _ _ (first_no_lem 0 (from_list_asks es) (few_no (length es) l)) e (g ∙ empty_record)

  module _ (small : length es ≤ 1024) {low : ℕ} (f : low ≡ first_bad_entry es) where
    pub list_bad : low < length es → a ≡ refusal 6 low → p ≡ record_of (identity 0) → reply a p ≡ from_list_call es
    list_bad l e g =
        replies_refused _ _ _ _
        (first_no_lem 1 (from_list_asks es) (few_yes (length es) small, order_no es (λ z. omega arith)))
        (rw f at e) (g ∙ empty_record)

    pub list_done : length es ≤ low → a ≡ accepted 0 → p ≡ record_of es → reply a p ≡ from_list_call es
    list_done l e g =
        let z : first_bad_entry es ≡ length es = omega (arith, bad_within (good_entry (length es) es) (length es)) in
        replies_accepted _ _ _ _
        (yes_each (from_list_asks es) (few_yes (length es) small, (order_yes es z, tt)))
        e g
