-- How far a number reaches, and that its own bytes are enough to read it: an input cut behind them gives the same number.
-- Assumes nothing.
use mathlib.Core.Path.{◌≡◌, refl, sym, ap, ◌∙◌}
use mathlib.Core.Bool.{Bool, true, false, ◌||◌, and-eq-true_iff}
use mathlib.Core.List.{List, [], ◌∷◌}
use Prim.Native.Nat.{ℕ, ◌+◌, ◌*◌, ◌%◌, ◌≤◌, ◌<◌}
use native.Mathlib.Omega.{arith}
use lib.Dec.{ltb, leb}
use lib.ListN.{length, take}
use lib.Seq.{length-take-le, get_or-take}
use borrow.Author.Tests.{lt-ltb, leb-true}
use Rattle.answers.specs.Questions.{Question, ask, Verdict, all_yes, no_at, first_no}
use Rattle.answers.proofs.Questions.{asked_yes, passed}
use Rattle.numbers.specs.Numbers.{byte_at, one_byte, ends, number_questions, value_at, place_after, number_at}

pub place_near : (input : List ℕ) (at : ℕ) → (number_at input at).next ≤ at + 2
unfolding number_at
place_near input at = go (first_no (number_questions input at)) refl
  where
    after : (b : Bool) → one_byte input at ≡ b → place_after input at ≤ at + 2
    after true t = rw (t, place_after) (omega arith)
    after false t = rw (t, place_after) (omega arith)

    go : (v : Verdict) → first_no (number_questions input at) ≡ v → (number_at input at).next ≤ at + 2
    go all_yes t = rw t (after (one_byte input at) refl)
    go (no_at q p) t = rw t (omega arith)

-- a number below 128 has one byte: the second byte of a number is not 0
pub place_small : (input : List ℕ) (at : ℕ) → (number_at input at).value < 128 → (number_at input at).next ≤ at + 1
unfolding number_at number_questions
place_small input at = go (first_no (number_questions input at)) refl
  where
    after : (b : Bool) → one_byte input at ≡ b → first_no (number_questions input at) ≡ all_yes → value_at input at < 128
        → place_after input at ≤ at + 1
    after true t e h = rw (t, place_after) (omega arith)
    after false t e h =
        let high = byte_at input (at + 1) in
        let third : List Question = ask 9 at (one_byte input at || ends high) ∷ [] in
        let second : List Question = ask 8 (length input) (one_byte input at || ltb (at + 1) (length input)) ∷ third in
        let started = (passed 8 (length input) (ltb at (length input)) second e).rest in
        let passes = (passed 8 (length input) (one_byte input at || ltb (at + 1) (length input)) third started).rest in
        let ended : ends high ≡ true = rw t at (passed 9 at (one_byte input at || ends high) [] passes).here in
        let value : value_at input at ≡ byte_at input at % 128 + high * 128 = rw (t, value_at) in
        absurd (omega (arith, value, leb-true 1 high ((and-eq-true_iff (leb 1 high) (ltb high 128)).0 ended).0))

    go : (v : Verdict) → first_no (number_questions input at) ≡ v → (number_at input at).value < 128 → (number_at input at).next ≤ at + 1
    go all_yes t h = rw t (after (one_byte input at) refl t (rw t at h))
    go (no_at q p) t h = rw t (omega arith)

-- a number and the place after it, from its bytes
abbrev value_of : ℕ → ℕ → ℕ
value_of low high = elim (ltb low 128) [ true ↦ low | false ↦ low % 128 + high * 128 ]

abbrev place_of : ℕ → ℕ → ℕ
place_of at low = elim (ltb low 128) [ true ↦ at + 1 | false ↦ at + 2 ]

either : (b : Bool) → (b || true) ≡ true
either true = refl
either false = refl

-- a number with two bytes before the end can only be in a bad form
form_asked_lem : (input : List ℕ) (at : ℕ) → at + 1 < length input
    → first_no (number_questions input at) ≡ first_no (ask 9 at (one_byte input at || ends (byte_at input (at + 1))) ∷ [])
unfolding number_questions
form_asked_lem input at h =
    let third : List Question = ask 9 at (one_byte input at || ends (byte_at input (at + 1))) ∷ [] in
    let b : Bool = one_byte input at || ltb (at + 1) (length input) in
    asked_yes 8 (length input) (ltb at (length input)) (ask 8 (length input) b ∷ third) (lt-ltb at (length input) (omega arith))
    ∙ asked_yes 8 (length input) b third (rw (lt-ltb (at + 1) (length input) h) (either (one_byte input at)))

-- a number that lies in the first m bytes
module _ (input : List ℕ) (m : ℕ) (long : m ≤ length input) where
  pub asked_alike : (at : ℕ) → at + 1 < m → first_no (number_questions (take m input) at) ≡ first_no (number_questions input at)
  asked_alike at h =
      let ninth : List ℕ → List Question = λ bytes. ask 9 at (one_byte bytes at || ends (byte_at bytes (at + 1))) ∷ [] in
      let same : first_no (ninth (take m input)) ≡ first_no (ninth input) =
      rw (get_or-take m input at 0 (omega arith), get_or-take m input (at + 1) 0 h)
      in
      form_asked_lem (take m input) at (omega (arith, length-take-le m input long)) ∙ same ∙ sym (form_asked_lem input at (omega arith))

  pub read_alike : (at : ℕ) → at + 1 < m → number_at (take m input) at ≡ number_at input at
  unfolding number_at
  read_alike at h =
      let low : byte_at (take m input) at ≡ byte_at input at = get_or-take m input at 0 (omega arith) in
      let high : byte_at (take m input) (at + 1) ≡ byte_at input (at + 1) = get_or-take m input (at + 1) 0 h in
      let value : value_at (take m input) at ≡ value_at input at =
      ap (λ b. value_of b (byte_at (take m input) (at + 1))) low ∙ ap (value_of (byte_at input at)) high
      in
      let place : place_after (take m input) at ≡ place_after input at = ap (place_of at) low in
      rw (asked_alike at h, value, place)
