-- What holds of a whole call, return by return.
-- Assumes nothing.
use mathlib.Core.Path.{◌≡◌, refl, sym, ap, ◌∙◌}
use mathlib.Core.Bool.{Bool, true, false}
use mathlib.Core.List.{List, [], ◌∷◌, ◌++◌}
use Prim.Native.Nat.{ℕ, ◌<◌}
use native.Mathlib.Omega.{arith}
use Rattle.answers.specs.declared.Answer.{Answer}
use Rattle.answers.specs.Answers.{refusal, accepted}
use Rattle.answers.specs.Questions.{Question, Verdict, all_yes, no_at, first_no, Numbered}
use Rattle.answers.specs.Buffers.{overlay}
use Rattle.answers.specs.Outcomes.{answer_of, outcome, settled, logged, settled_logged}

module _ (v : Verdict) (count : ℕ) (words b : List ℕ) {a : Answer} {b' : List ℕ} where
  -- a refused call: the refusal, and the buffer as it was
  pub ends_refused : {q p : ℕ} → v ≡ no_at q p → a ≡ refusal q p → b' ≡ b → outcome a b' ≡ settled v count words b
  ends_refused e r k = rw (e, r, k)

  -- an accepted call: its count, and the words over the front of the buffer
  pub ends-accepted : v ≡ all_yes → a ≡ accepted count → b' ≡ overlay b 0 words → outcome a b' ≡ settled v count words b
  ends-accepted e r k = rw (e, r, k)

module _ (v : Verdict) (count : ℕ) (words b entries l : List ℕ) {a : Answer} {b' l' : List ℕ} where
  pub logged_refused : {q p : ℕ} → v ≡ no_at q p → a ≡ refusal q p → b' ≡ b → l' ≡ l → logged a b' l' ≡ settled_logged v count words b entries l
  logged_refused e r k m = rw (e, r, k, m)

  pub logged-accepted : v ≡ all_yes → a ≡ accepted count → b' ≡ overlay b 0 words → l' ≡ overlay l 0 entries
      → logged a b' l' ≡ settled_logged v count words b entries l
  logged-accepted e r k m = rw (e, r, k, m)

-- questions that are numbered, of two sequences
pub numbered_both : (qs rs : List Question) → Numbered qs → Numbered rs → Numbered (qs ++ rs)
numbered_both [] rs h g = g
numbered_both (q ∷ qs) rs h g = (h.0, numbered_both qs rs h.1 g)

no_number : (qs : List Question) → Numbered qs → {n p : ℕ} → first_no qs ≡ no_at n p → 0 < n
no_number [] h {n} {p} e = absurd (let z : all_yes ≡ no_at n p = e in let y : ◌≡◌ {A = ℕ} 0 1 = cc in omega arith)
no_number (q ∷ qs) h {n} {p} e = go q.yes refl (no_number qs h.1 {n = n} {p = p})
  where
    go : (b : Bool) → q.yes ≡ b → (first_no qs ≡ no_at n p → 0 < n) → 0 < n
    go true t r = r (sym (rw t) ∙ e)
    go false t r = let z : no_at q.number q.place ≡ no_at n p = sym (rw t) ∙ e in let y : q.number ≡ n = cc in omega (arith, h.0)

-- number 0 exactly when every question gets a yes
pub accepted_when : (qs : List Question) (count : ℕ) → Numbered qs → (answer_of (first_no qs) count).number ≡ 0 → first_no qs ≡ all_yes
accepted_when qs count h e = go (first_no qs) refl
  where
    go : (v : Verdict) → first_no qs ≡ v → first_no qs ≡ all_yes
    go all_yes t = t
    go (no_at n p) t = absurd (omega (arith, no_number qs h t, sym (ap (λ w. (answer_of w count).number) t) ∙ e))
