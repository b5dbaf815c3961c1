-- The permutation record: it passes questions 1 and 6 exactly when it is the record of a permutation, its number included.
-- Assumes nothing.
use mathlib.Core.Path.{◌≡◌, sym, ap, ◌∙◌}
use mathlib.Core.Bool.{Bool, true}
use mathlib.Core.List.{List, [], ◌∷◌}
use Prim.Native.Nat.{ℕ, ◌+◌, ◌≤◌, ◌<◌}
use native.Mathlib.Omega.{arith}
use native.Mathlib.Decide.{dec_lt}
use lib.Dec.{leb, eqb}
use lib.ListN.{length, get_or, set, take, length-set, get_or-eq_default}
use lib.Seq.{length-take-le, get_or-take, get_or-set_other, take-set-lt}
use borrow.Author.Tests.{leb-true, eqb-true}
use Rattle.answers.specs.Questions.{ask, ask_each, first_bad}
use Rattle.answers.proofs.Questions.{passed, all_good, none_bad}
use Rattle.permutation.specs.Permutations.{bit, first_bad_entry, exchanged, combined, inverted, fixed_points}
use Rattle.permutation.proofs.Permutations.{passes_permutation}
use Rattle.permutation.proofs.Sweeps.{counted_within}
use Rattle.permutation.proofs.Inverses.{inverted_permutation}
use Rattle.permutation.proofs.Laws.{combined-length}
use Rattle.permutation.proofs.Counts.{exchanged_fixed, inverted_fixed}
use Rattle.record_questions.specs.Questions.{good_in_record}
use Rattle.record_questions.proofs.Questions.{good_past, front-bad}
use Rattle.record_entries.specs.Entries.{padded}
use Rattle.record_entries.specs.Fillings.{counted_of}
use Rattle.record_entries.specs.declared.Counted.{Counted}
use Rattle.record_entries.proofs.Entries.{is_padded}
use Rattle.records.specs.Records.{record_of, list_of, WellFormed, Sound}
use Rattle.records.specs.declared.Permutation.{Permutation}

-- ---- a record whose entries are a list's, with the list's number, is the record of that list

pub is_record_of : (n : ℕ) {e : List ℕ} {c : ℕ} (es : List ℕ) → length es ≡ n → e ≡ padded es → c ≡ fixed_points es
    → ◌≡◌ {A = Permutation} (record { length = n; entries = e; fixed = c }) (record_of es)
unfolding record_of
is_record_of n es k p q = rw (p, q, ← k)

-- as a loop filled and counted them
pub is_record_filled : (n : ℕ) {made : Counted} (es : List ℕ) → length es ≡ n → made ≡ counted_of es
    → ◌≡◌ {A = Permutation} (record { length = n; entries = made.entries; fixed = made.fixed }) (record_of es)
is_record_filled n es k e = is_record_of n es k (ap (λ (m : Counted). m.entries) e) (ap (λ (m : Counted). m.fixed) e)

-- ---- what a record that passes is

module _ (p : Permutation) (s : length p.entries ≡ 1024) where
  pub sound : WellFormed p → Sound p
  sound w =
      record {
        small = small;
        permutation =
            let long : length (list_of p) ≡ p.length = length-take-le p.length p.entries (omega (arith, small)) in
            let front : first_bad_entry (list_of p) ≡ p.length =
            front-bad p.length p.entries (omega (arith, small)) ∙ none_bad good p.length (λ i l. all i (omega (arith, small))) in
            rw long at (passes_permutation (list_of p) (front ∙ sym long));
        past = λ v l. past v l (dec_lt v 1024);
        fixed_true = eqb-true _ _ asked.2;
      }
    where
      good : ℕ → Bool
      good = good_in_record p.length p.entries

      asked : (leb p.length 1024 ≡ true) × (eqb (first_bad good 1024) 1024 ≡ true) × (eqb p.fixed (fixed_points (list_of p)) ≡ true)
      asked =
          let number = ask 6 1024 (eqb p.fixed (fixed_points (list_of p))) in
          let a = passed 1 0 (leb p.length 1024) (ask_each 6 good 1024 ∷ number ∷ []) w in
          let b = passed 6 (first_bad good 1024) (eqb (first_bad good 1024) 1024) (number ∷ []) a.rest in
          let c = passed 6 1024 (eqb p.fixed (fixed_points (list_of p))) [] b.rest in
          (a.here, b.here, c.here)

      small : p.length ≤ 1024
      small = leb-true _ _ asked.0

      all : (i : ℕ) → i < 1024 → good i ≡ true
      all = all_good good 1024 (eqb-true _ _ asked.1)

      past : (v : ℕ) → p.length ≤ v → Dec (v < 1024) → get_or p.entries v 0 ≡ 0
      past v l (yes m) = eqb-true _ _ (sym (good_past p.length p.entries v l) ∙ all v m)
      past v l (no m) = get_or-eq_default p.entries 0 {n = v} (omega arith)

  pub sound_record : Sound p → p ≡ record_of (list_of p)
  sound_record S =
      is_record_of p.length (list_of p) (length-take-le p.length p.entries (omega (arith, S.small)))
      (is_padded p.length p.entries s S.small S.past) S.fixed_true

  -- a number that is true is small
  pub few_fixed : Sound p → p.fixed ≤ 1024
  few_fixed S =
      omega
      (arith, S.small, S.fixed_true, S.permutation.whole, counted_within (λ i. eqb (get_or (list_of p) i 0) i) (length (list_of p)))

  module _ (S : Sound p) (i j : ℕ) (li : i < p.length) (lj : j < p.length) where
    abbrev es : List ℕ
    es = p.entries

    -- two entries of a sound record exchanged: what comes home at the two places, and what leaves
    pub exchanged-count : fixed_points (exchanged (list_of p) i j) + (bit (eqb (get_or es i 0) i) + bit (eqb (get_or es j 0) j))
        ≡ p.fixed + (bit (eqb (get_or es j 0) i) + bit (eqb (get_or es i 0) j))
    exchanged-count =
        let read : (k at : ℕ) → k < p.length → bit (eqb (get_or (list_of p) k 0) at) ≡ bit (eqb (get_or es k 0) at) =
        λ k at l. ap (λ x. bit (eqb x at)) (get_or-take p.length es k 0 l) in
        let long : length (list_of p) ≡ p.length = S.permutation.whole in
        let law = exchanged_fixed (list_of p) i j (omega arith) (omega arith) in
        omega (arith, S.fixed_true, law, read i i li, read i j li, read j i lj, read j j lj)

    pub exchanged_sound : {e : List ℕ} {c : ℕ} → e ≡ exchanged es i j
        → c + (bit (eqb (get_or es i 0) i) + bit (eqb (get_or es j 0) j)) ≡ p.fixed + (bit (eqb (get_or es j 0) i) + bit (eqb (get_or es i 0) j))
        → ◌≡◌ {A = Permutation} (record { length = p.length; entries = e; fixed = c }) (record_of (exchanged (list_of p) i j))
    exchanged_sound q c =
        let n = p.length in
        let x = get_or es i 0 in
        let y = get_or es j 0 in
        let front : take n (exchanged es i j) ≡ exchanged (take n es) i j =
        take-set-lt n (set es i y) j x lj
        ∙ ap (λ l. set l j x) (take-set-lt n es i y li)
        ∙ rw (get_or-take n es i 0 li, get_or-take n es j 0 lj) in
        is_record_of n (exchanged (list_of p) i j) (simp length-set S.permutation.whole)
        (q
        ∙ is_padded n (exchanged es i j) (simp length-set s) S.small
        (λ v l. get_or-set_other (set es i y) j v x 0 (λ z. omega arith) ∙ get_or-set_other es i v y 0 (λ z. omega arith) ∙ S.past v l)
        ∙ ap padded front)
        (omega (arith, c, exchanged-count))

  -- its inverse keeps its number
  pub inverted_sound : Sound p → {e : List ℕ} → e ≡ padded (inverted (list_of p))
      → ◌≡◌ {A = Permutation} (record { length = p.length; entries = e; fixed = p.fixed }) (record_of (inverted (list_of p)))
  inverted_sound S e =
      is_record_of p.length (inverted (list_of p)) (inverted_permutation p.length (list_of p) S.permutation).whole e
      (S.fixed_true ∙ sym (inverted_fixed p.length (list_of p) S.permutation))

-- two records combined
pub combined_record : (p q : Permutation) {made : Counted} → p.length ≤ 1024 → length p.entries ≡ 1024 → p.length ≡ q.length
    → made ≡ counted_of (combined (list_of p) (take p.length q.entries))
    → ◌≡◌ {A = Permutation} (record { length = p.length; entries = made.entries; fixed = made.fixed })
    (record_of (combined (list_of p) (list_of q)))
combined_record p q small s k e =
    let b = take p.length q.entries in
    let whole : length (list_of p) ≡ p.length = length-take-le p.length p.entries (omega arith) in
    is_record_filled p.length (combined (list_of p) b) (combined-length (list_of p) b ∙ whole) e
    ∙ ap (λ n. record_of (combined (list_of p) (take n q.entries))) k
