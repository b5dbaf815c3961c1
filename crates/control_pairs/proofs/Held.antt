-- The marks and the bits that the table of pairs holds: at the start, after a pair is settled, and cleared.
-- Assumes nothing.
use mathlib.Core.Path.{◌≡◌, refl, sym, ap, ◌∙◌}
use mathlib.Core.Logic.{◌≢◌}
use mathlib.Core.Bool.{true, false, not, cond}
use mathlib.Core.List.{List}
use Prim.Native.Nat.{ℕ, zero, suc, ◌+◌, ◌*◌, ◌≤◌, ◌<◌}
use native.Mathlib.Omega.{arith}
use native.Mathlib.Decide.{ℕ_discrete, dec_lt}
use lib.Dec.{ltb, eqb}
use lib.ListN.{length, get_or, set, replicate, length-replicate}
use lib.Seq.{get_or-set_other, set-get_or, set-set, set_comm, ext_get_or}
use borrow.Author.Tests.{lt-ltb, le-ltb, eq-eqb, ne_eqb}
use Rattle.answers.specs.Questions.{first_bad}
use Rattle.answers.proofs.Questions.{none_bad, all_good}
use Rattle.permutation.proofs.Sweeps.{same_bad}
use Rattle.steps.specs.Sweeps.{store, each, marked, none_marked, lowest_unmarked}
use Rattle.steps.specs.Steps.{digit}
use Rattle.steps.proofs.Places.{Unlike}
use Rattle.steps.proofs.Sweeps.{length-each, each_at, each_off}
use Rattle.select.proofs.Numbers.{digit_is}
use Rattle.control_rows.specs.Rows.{sixteens}
use Rattle.control_pairs.specs.Pairs.{mark_in, bit_in, marks_in, bits_in, none_in, Numbered, Unmarked, Settled}
use Rattle.control_pairs.proofs.Settling.{stored_at, numbered_after}

unlike_self : (n : ℕ) → Unlike n (λ i. i)
unfolding Unlike
unlike_self n i j li lj e = e

unlike_from : (b n : ℕ) → Unlike n (λ i. b + i)
unfolding Unlike
unlike_from b n i j li lj e = omega arith

-- ---- sweeps that put one thing alone, or nothing

-- a sweep that differs at p alone, where it puts a
each_stores : (place : ℕ → ℕ) (n p a : ℕ) (F G : ℕ → ℕ → ℕ) (xs : List ℕ) → Unlike n place
    → ((i : ℕ) → i < n → i ≢ p → (x : ℕ) → G i x ≡ F i x) → (p < n → (x : ℕ) → G p x ≡ a)
    → each place n G xs ≡ store place n p a (each place n F xs)
unfolding each store Unlike
each_stores place zero p a F G xs U same here = rw (le-ltb p 0 (omega arith))
each_stores place (suc n) p a F G xs U same here =
    go (ℕ_discrete n p) (dec_lt p n)
    (each_stores place n p a F G xs (λ i j li lj. U i j (omega arith) (omega arith)) (λ i l. same i (omega arith)) (λ l. here (omega arith)))
  where
    old : List ℕ
    old = each place n F xs

    put : List ℕ → ℕ → List ℕ
    put ys v = set ys (place n) v

    go : Dec (n ≡ p) → Dec (p < n) → each place n G xs ≡ cond (ltb p n) (set old (place p) a) old
        → put (each place n G xs) (G n (get_or (each place n G xs) (place n) 0))
        ≡ cond (ltb p (suc n)) (set (put old (F n (get_or old (place n) 0))) (place p) a) (put old (F n (get_or old (place n) 0)))
    go (yes e) d r =
        let z : each place n G xs ≡ old = r ∙ rw (le-ltb p n (omega arith)) in
        let g : (x : ℕ) → G n x ≡ a = λ x. rw e (here (omega arith) x) in
        rw (lt-ltb p (suc n) (omega arith), z, g (get_or old (place n) 0), ← e) (sym (set-set old (place n) _ a))
    go (no e) (yes d) r =
        let z : each place n G xs ≡ set old (place p) a = r ∙ rw (lt-ltb p n d) in
        let apart : place n ≢ place p = λ q. e (U n p (omega arith) (omega arith) q) in
        let still : get_or (set old (place p) a) (place n) 0 ≡ get_or old (place n) 0 = get_or-set_other old (place p) (place n) a 0 apart in
        rw (lt-ltb p (suc n) (omega arith), z, still, same n (omega arith) e (get_or old (place n) 0))
        (set_comm old (place p) (place n) a _ (λ q. apart (sym q)))
    go (no e) (no d) r =
        let z : each place n G xs ≡ old = r ∙ rw (le-ltb p n (omega arith)) in
        rw (le-ltb p (suc n) (omega arith), z, same n (omega arith) e (get_or old (place n) 0))

-- a sweep that puts what stands there
each_same : (place : ℕ → ℕ) (n : ℕ) (F : ℕ → ℕ → ℕ) (xs : List ℕ)
    → ((i : ℕ) → i < n → F i (get_or xs (place i) 0) ≡ get_or xs (place i) 0) → each place n F xs ≡ xs
unfolding each
each_same place zero F xs h = refl
each_same place (suc n) F xs h =
    rw (each_same place n F xs (λ i l. h i (omega arith)), h n (omega arith)) (set-get_or xs (place n) 0)

-- ---- no pair marked

pub zero-at : (n i : ℕ) → ◌≡◌ {A = ℕ} (get_or (replicate {A = ℕ} n 0) i 0) 0
zero-at zero i = refl
zero-at (suc n) zero = refl
zero-at (suc n) (suc i) = zero-at n i

module _ (k : ℕ) (pairs : List ℕ) (few : k ≤ 512) (un : Unmarked k pairs) where
  open_at : (i : ℕ) → i < k → mark_in pairs i ≡ false
  unfolding Unmarked
  open_at i h = rw (un i (omega arith), lt-ltb i 1024 (omega arith))

  pub unmarked_numbered : Numbered k pairs
  unfolding Numbered Unmarked
  unmarked_numbered i h = let e = un i h in (omega arith, omega arith)

  pub unmarked_none : none_in k pairs ≡ true
  unmarked_none = eq-eqb (first_bad (λ i. not (mark_in pairs i)) k) k (none_bad (λ i. not (mark_in pairs i)) k (λ i l. rw (open_at i l)))

  pub unmarked_marks : (n : ℕ) → marks_in k pairs (replicate n 0) ≡ replicate n 0
  unfolding marks_in
  unmarked_marks n =
      each_same (λ i. i) k (λ i mark. digit (mark_in pairs i)) (replicate n 0) (λ i l. rw (open_at i l) (sym (zero-at n i)))

  pub unmarked_bits : (b n : ℕ) (bits : List ℕ) → n ≤ k → bits_in b n pairs bits ≡ bits
  unfolding bits_in
  unmarked_bits b n bits h =
      each_same (λ i. b + i) n (λ i bit. cond (mark_in pairs i) (bit_in pairs i) bit) bits (λ i l. rw (open_at i (omega arith)))

-- ---- the marks that the table holds, asked as the definition asks

module _ (k : ℕ) (pairs marks : List ℕ) (room : k ≤ length marks) where
  held : (i : ℕ) → i < k → marked (marks_in k pairs marks) i ≡ mark_in pairs i
  unfolding marks_in
  held i l =
      rw (each_at (λ j. j) (λ j mark. digit (mark_in pairs j)) marks k (unlike_self k) (λ j lj. omega arith) i l) (digit_is (mark_in pairs i))

  pub none_held : none_marked (marks_in k pairs marks) k ≡ none_in k pairs
  none_held =
      ap (λ n. eqb n k)
      (same_bad (λ i. not (marked (marks_in k pairs marks) i)) (λ i. not (mark_in pairs i)) k (λ i l. ap not (held i l)))

  pub low_held : lowest_unmarked (marks_in k pairs marks) k ≡ first_bad (mark_in pairs) k
  low_held = same_bad (marked (marks_in k pairs marks)) (mark_in pairs) k held

-- cleared marks are no marks
pub marks_cleared : (k n : ℕ) (pairs : List ℕ) → k ≤ n → each (λ i. i) k (λ i mark. 0) (marks_in k pairs (replicate n 0)) ≡ replicate {A = ℕ} n 0
unfolding marks_in
marks_cleared k n pairs h =
    ext_get_or 0 (each (λ i. i) k (λ i mark. 0) held) (replicate {A = ℕ} n 0) (length-each (λ i. i) (λ i mark. 0) held k ∙ long)
    (λ i l. go i (dec_lt i k))
  where
    held : List ℕ
    held = each (λ i. i) k (λ i mark. digit (mark_in pairs i)) (replicate n 0)

    long : length held ≡ length (replicate {A = ℕ} n 0)
    long = length-each (λ i. i) (λ i mark. digit (mark_in pairs i)) (replicate n 0) k

    room : k ≤ length held
    room = omega (arith, long, length-replicate {A = ℕ} n 0)

    go : (i : ℕ) → Dec (i < k) → get_or (each (λ i. i) k (λ i mark. 0) held) i 0 ≡ get_or (replicate {A = ℕ} n 0) i 0
    go i (yes l) = each_at (λ j. j) (λ j mark. 0) held k (unlike_self k) (λ j lj. omega (arith, room)) i l ∙ sym (zero-at n i)
    go i (no l) =
        each_off (λ j. j) (λ j mark. 0) held k i (λ j lj e. omega arith)
        ∙ each_off (λ j. j) (λ j mark. digit (mark_in pairs j)) (replicate n 0) k i (λ j lj e. omega arith)

-- ---- a pair settled

module _ {k p bit : ℕ} {before after : List ℕ} {low : ℕ} (S : Settled k p bit before after low)
    (few : k ≤ 512) (room : 512 ≤ length before) (b : bit < 2) (N : Numbered k before) where
  at : (i : ℕ) → i < k → get_or after i 0 ≡ cond (eqb i p) (p + 1024 + 2048 * bit) (get_or before i 0)
  at i l = rw S.pairs (stored_at (sixteens k) p (p + 1024 + 2048 * bit) i before (omega arith) (omega arith))

  other : (i : ℕ) → i < k → i ≢ p → get_or after i 0 ≡ get_or before i 0
  other i l e = at i l ∙ rw (ne_eqb i p e)

  here : p < k → get_or after p 0 ≡ p + 1024 + 2048 * bit
  here l = at p l ∙ rw (eq-eqb p p refl)

  marks_here : p < k → mark_in after p ≡ true
  marks_here l = rw (here l, le-ltb (p + 1024 + 2048 * bit) 1024 (omega arith))

  pub settled_numbered : Numbered k after
  settled_numbered = rw S.pairs (numbered_after k p bit before few (omega arith) b N)

  pub settled_marks : (marks : List ℕ) → marks_in k after marks ≡ store (λ i. i) k p 1 (marks_in k before marks)
  unfolding marks_in
  settled_marks marks =
      each_stores (λ i. i) k p 1 (λ i mark. digit (mark_in before i)) (λ i mark. digit (mark_in after i)) marks (unlike_self k)
      (λ i l e x. rw (other i l e)) (λ l x. rw (marks_here l))

  pub settled_bits : (c n : ℕ) (bits : List ℕ) → n ≤ k → bits_in c n after bits ≡ store (λ i. c + i) n p bit (bits_in c n before bits)
  unfolding bits_in
  settled_bits c n bits h =
      each_stores (λ i. c + i) n p bit (λ i x. cond (mark_in before i) (bit_in before i) x) (λ i x. cond (mark_in after i) (bit_in after i) x)
      bits (unlike_from c n) (λ i l e x. rw (other i (omega arith) e))
      (λ l x. rw (marks_here (omega arith), here (omega arith)) (omega arith))

  -- a pair is marked where one was, or p is one
  pub settled_none : none_in k after ≡ cond (ltb p k) false (none_in k before)
  settled_none = go (dec_lt p k)
    where
      go : Dec (p < k) → none_in k after ≡ cond (ltb p k) false (none_in k before)
      go (yes l) =
          rw (lt-ltb p k l)
          (ne_eqb (first_bad (λ i. not (mark_in after i)) k) k (λ e. clash (sym (rw (marks_here l)) ∙ all_good (λ i. not (mark_in after i)) k e p l)))
        where
          clash : false ≡ true → ⊥
          clash z = let u : ◌≡◌ {A = ℕ} 0 1 = cc in omega arith
      go (no l) =
          rw (le-ltb p k (omega arith))
          (ap (λ n. eqb n k)
          (same_bad (λ i. not (mark_in after i)) (λ i. not (mark_in before i)) k (λ i m. rw (other i m (λ e. omega arith)))))
