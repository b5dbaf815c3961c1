-- Laws of the questions: one question at a time, and the first bad index.
-- Assumes nothing.
use mathlib.Core.Path.{◌≡◌, refl, sym, ap, ◌∙◌}
use mathlib.Core.Bool.{Bool, true, false}
use mathlib.Core.List.{List, [], ◌∷◌, ◌++◌}
use Prim.Native.Nat.{ℕ, zero, suc, ◌+◌, ◌≤◌, ◌<◌}
use native.Mathlib.Numerals.{add-one}
use native.Mathlib.Omega.{arith}
use native.Mathlib.Decide.{dec_lt}
use Rattle.answers.specs.Questions.{Question, ask, first_bad_from, first_bad, Verdict, all_yes, no_at, first_no, EachYes}

-- a question that gets a yes is passed over; one that gets a no ends the sequence
pub asked_yes : (q p : ℕ) (b : Bool) (qs : List Question) → b ≡ true → first_no (ask q p b ∷ qs) ≡ first_no qs
asked_yes q p b qs e = rw e

pub asked_no : (q p : ℕ) (b : Bool) (qs : List Question) → b ≡ false → first_no (ask q p b ∷ qs) ≡ no_at q p
asked_no q p b qs e = rw e

-- of two sequences one after the other, the second is asked where the first passes
pub asked-both : (qs rs : List Question) → first_no qs ≡ all_yes → first_no (qs ++ rs) ≡ first_no rs
asked-both [] rs e = refl
asked-both (q ∷ qs) rs e = go q.yes refl (asked-both qs rs)
  where
    go : (b : Bool) → q.yes ≡ b → (first_no qs ≡ all_yes → first_no (qs ++ rs) ≡ first_no rs) → first_no (q ∷ (qs ++ rs)) ≡ first_no rs
    go true t r = rw t (r (sym (rw t) ∙ e))
    go false t r = absurd (let z : no_at q.number q.place ≡ all_yes = sym (rw t) ∙ e in let y : ◌≡◌ {A = ℕ} 0 1 = cc in omega arith)

pub asked-first : (qs rs : List Question) {n p : ℕ} → first_no qs ≡ no_at n p → first_no (qs ++ rs) ≡ no_at n p
asked-first [] rs {n} {p} e = absurd (let z : all_yes ≡ no_at n p = e in let y : ◌≡◌ {A = ℕ} 0 1 = cc in omega arith)
asked-first (q ∷ qs) rs {n} {p} e = go q.yes refl (asked-first qs rs {n = n} {p = p})
  where
    go : (b : Bool) → q.yes ≡ b → (first_no qs ≡ no_at n p → first_no (qs ++ rs) ≡ no_at n p) → first_no (q ∷ (qs ++ rs)) ≡ no_at n p
    go true t r = rw t (r (sym (rw t) ∙ e))
    go false t r = rw t (sym (rw t) ∙ e)

-- both of two sequences pass where the two together do
pub record BothPass (qs rs : List Question) : Type 0 where
  pub first : first_no qs ≡ all_yes
  pub second : first_no rs ≡ all_yes

pub never : {q p : ℕ} → no_at q p ≡ all_yes → ⊥
never {q} {p} e = let z : no_at q p ≡ all_yes = e in let y : ◌≡◌ {A = ℕ} 0 1 = cc in omega arith

pub both_pass : (qs rs : List Question) → first_no (qs ++ rs) ≡ all_yes → BothPass qs rs
both_pass qs rs e = go (first_no qs) refl
  where
    go : (w : Verdict) → first_no qs ≡ w → BothPass qs rs
    go all_yes t = record { first = t; second = sym (asked-both qs rs t) ∙ e }
    go (no_at q p) t = absurd (never (sym (asked-first qs rs t) ∙ e))

-- a sequence passes exactly when its first question gets a yes and the rest passes
pub record Passed (b : Bool) (qs : List Question) : Type 0 where
  pub here : b ≡ true
  pub rest : first_no qs ≡ all_yes

pub passed : (q p : ℕ) (b : Bool) (qs : List Question) → first_no (ask q p b ∷ qs) ≡ all_yes → Passed b qs
passed q p true qs e = record { here = refl; rest = e }
passed q p false qs e = absurd (let z : no_at q p ≡ all_yes = e in let y : ◌≡◌ {A = ℕ} 0 1 = cc in omega arith)

-- no question gets a no exactly when each gets a yes
pub each_yes : (qs : List Question) → first_no qs ≡ all_yes → EachYes qs
each_yes [] e = tt
each_yes (q ∷ qs) e = let P = passed q.number q.place q.yes qs e in (P.here, each_yes qs P.rest)

pub yes_each : (qs : List Question) → EachYes qs → first_no qs ≡ all_yes
yes_each [] y = refl
yes_each (q ∷ qs) y = rw y.0 (yes_each qs y.1)

-- ---- the first bad index

module _ (good : ℕ → Bool) where
  from_yes : (left i : ℕ) → good i ≡ true → first_bad_from good (suc left) i ≡ first_bad_from good left (suc i)
  unfolding first_bad_from
  from_yes left i e = rw (first_bad_from, e)

  from_no : (left i : ℕ) → good i ≡ false → first_bad_from good (suc left) i ≡ i
  unfolding first_bad_from
  from_no left i e = rw (first_bad_from, e)

  from_none : (i : ℕ) → first_bad_from good 0 i ≡ i
  unfolding first_bad_from
  from_none i = refl

  from_within : (m i : ℕ) → (i ≤ first_bad_from good m i) × (first_bad_from good m i ≤ i + m)
  from_within zero i = rw (from_none i) (omega arith, omega arith)
  from_within (suc m) i = go (good i) refl (from_within m (suc i))
    where
      go : (b : Bool) → good i ≡ b → (suc i ≤ first_bad_from good m (suc i)) × (first_bad_from good m (suc i) ≤ suc i + m)
          → (i ≤ first_bad_from good (suc m) i) × (first_bad_from good (suc m) i ≤ i + suc m)
      go true t r = rw (from_yes m i t) (omega (arith, r), omega (arith, r))
      go false t r = rw (from_no m i t) (omega arith, omega arith)

  -- where all so far are good, one more is looking on from the end
  from_more : (m i : ℕ) → first_bad_from good m i ≡ i + m → first_bad_from good (suc m) i ≡ first_bad_from good 1 (i + m)
  from_more zero i e = let z : i + 0 ≡ i = omega arith in ap (first_bad_from good 1) (sym z)
  from_more (suc m) i e = go (good i) refl (from_more m (suc i))
    where
      go : (b : Bool) → good i ≡ b → (first_bad_from good m (suc i) ≡ suc i + m → first_bad_from good (suc m) (suc i) ≡ first_bad_from good 1 (suc i + m))
          → first_bad_from good (suc (suc m)) i ≡ first_bad_from good 1 (i + suc m)
      go true t r =
          let z : suc i + m ≡ i + suc m = omega arith in
          from_yes (suc m) i t ∙ r (sym (from_yes m i t) ∙ e ∙ sym z) ∙ ap (first_bad_from good 1) z
      go false t r = absurd (omega (arith, sym (from_no m i t) ∙ e))

  -- a bad index that was found stays found
  from_kept : (m i : ℕ) → first_bad_from good m i < i + m → first_bad_from good (suc m) i ≡ first_bad_from good m i
  from_kept zero i l = absurd (omega (arith, from_none i))
  from_kept (suc m) i l = go (good i) refl (from_kept m (suc i))
    where
      go : (b : Bool) → good i ≡ b → (first_bad_from good m (suc i) < suc i + m → first_bad_from good (suc m) (suc i) ≡ first_bad_from good m (suc i))
          → first_bad_from good (suc (suc m)) i ≡ first_bad_from good (suc m) i
      go true t r = from_yes (suc m) i t ∙ r (omega (arith, from_yes m i t, l)) ∙ sym (from_yes m i t)
      go false t r = from_no (suc m) i t ∙ sym (from_no m i t)

  -- one index more, as a sweep goes: it counts where it is good and all before are
  pub bad_within : (n : ℕ) → first_bad good n ≤ n
  bad_within n = omega (arith, from_within n 0)

  one_more : (n : ℕ) → first_bad good n ≡ n → first_bad good (suc n) ≡ first_bad_from good 1 n
  one_more n e = let z : 0 + n ≡ n = omega arith in from_more n 0 (e ∙ sym z) ∙ ap (first_bad_from good 1) z

  pub bad_counts : (n : ℕ) → first_bad good n ≡ n → good n ≡ true → first_bad good (n + 1) ≡ n + 1
  bad_counts n e t = ap (first_bad good) (add-one n) ∙ one_more n e ∙ from_yes 0 n t ∙ from_none (suc n) ∙ sym (add-one n)

  pub bad_stops : (n : ℕ) → first_bad good n ≡ n → good n ≡ false → first_bad good (n + 1) ≡ n
  bad_stops n e t = ap (first_bad good) (add-one n) ∙ one_more n e ∙ from_no 0 n t

  pub bad_stays : (n : ℕ) → first_bad good n < n → first_bad good (n + 1) ≡ first_bad good n
  bad_stays n l = ap (first_bad good) (add-one n) ∙ from_kept n 0 (omega arith)

  -- nothing bad: each index is good; and the other way round
  pub all_good : (n : ℕ) → first_bad good n ≡ n → (i : ℕ) → i < n → good i ≡ true
  all_good zero e i l = absurd (omega arith)
  all_good (suc n) e i l = go (dec_lt (first_bad good n) n) (all_good n)
    where
      last : first_bad good n ≡ n → (b : Bool) → good n ≡ b → good n ≡ true
      last s true t = t
      last s false t = absurd (omega (arith, rw add-one at (bad_stops n s t), e))

      here : first_bad good n ≡ n → (first_bad good n ≡ n → (i : ℕ) → i < n → good i ≡ true) → Dec (i < n) → good i ≡ true
      here s r (yes x) = r s i x
      here s r (no x) = let z : i ≡ n = omega arith in rw z (last s (good n) refl)

      go : Dec (first_bad good n < n) → (first_bad good n ≡ n → (i : ℕ) → i < n → good i ≡ true) → good i ≡ true
      go (yes x) r = absurd (omega (arith, rw add-one at (bad_stays n x), e))
      go (no x) r = here (omega (arith, bad_within n)) r (dec_lt i n)

  pub none_bad : (n : ℕ) → ((i : ℕ) → i < n → good i ≡ true) → first_bad good n ≡ n
  none_bad zero h = from_none 0
  none_bad (suc n) h = rw add-one at (bad_counts n (none_bad n (λ i l. h i (omega arith))) (h n (omega arith)))

  -- a bad index is where the good ones end
  pub bad-at : (n : ℕ) → first_bad good n < n → good (first_bad good n) ≡ false
  bad-at zero l = absurd (omega arith)
  bad-at (suc n) l = go (dec_lt (first_bad good n) n) (bad-at n)
    where
      last : first_bad good n ≡ n → (b : Bool) → good n ≡ b → good (first_bad good (suc n)) ≡ false
      last s true t = absurd (omega (arith, rw add-one at (bad_counts n s t), l))
      last s false t = rw (rw add-one at (bad_stops n s t)) t

      go : Dec (first_bad good n < n) → (first_bad good n < n → good (first_bad good n) ≡ false) → good (first_bad good (suc n)) ≡ false
      go (yes x) r = rw (rw add-one at (bad_stays n x)) (r x)
      go (no x) r = last (omega (arith, bad_within n)) (good n) refl
