-- Laws of the number reader: what each case of its answer says, and that what is written is read back.
-- Assumes nothing.
use mathlib.Core.Path.{◌≡◌, refl, sym, ap, ◌∙◌}
use mathlib.Core.Bool.{Bool, true, false, ◌||◌, and-eq-true_iff}
use mathlib.Core.List.{List, [], ◌∷◌, ◌++◌}
use Prim.Native.Nat.{ℕ, ◌+◌, ◌*◌, ◌/◌, ◌%◌, ◌≤◌, ◌<◌}
use native.Mathlib.Omega.{arith}
use native.Mathlib.Decide.{dec_lt}
use lib.Dec.{ltb, leb}
use lib.ListN.{length, get_or, length-append}
use lib.Seq.{get_or-append_seam, get_or-append-add}
use borrow.Author.Tests.{lt-ltb, le-ltb, le-leb, lt-leb, ltb-true}
use Rattle.std.specs.Prelude.{Result, Ok, Err}
use Rattle.answers.specs.declared.Reason.{Reason}
use Rattle.answers.specs.declared.Reason.TheVariants.{Places, Width, BlockBytes, BitCount, LogRoom, Entry, BitByte, NextByte, ShortestForm, FormNumber, FillBits, InputEnd, OutputRoom, Place, OneLength, SmallOrder, Words}
use Rattle.answers.specs.declared.Refusal.{Refusal}
use Rattle.answers.specs.Answers.{refusal, number_of}
use Rattle.answers.specs.Questions.{Question, ask, Verdict, all_yes, no_at, first_no, Numbered}
use Rattle.answers.specs.Outcomes.{answer_of}
use Rattle.answers.proofs.Questions.{passed}
use Rattle.answers.proofs.Outcomes.{accepted_when}
use Rattle.numbers.specs.Numbers.{number_bytes, byte_at, one_byte, ends, number_questions, value_at, place_after, NumberAnswer, number_answer, number_at, NumberForm, sevens, Reads}
use Rattle.numbers.specs.Reading.{meaning, ReadAs}
use Rattle.numbers.specs.declared.Number.{Number}

-- ---- the questions, case by case

module _ (input : List ℕ) (at : ℕ) where
  -- a number of one byte, and a number of two
  short_value : one_byte input at ≡ true → value_at input at ≡ byte_at input at
  short_value t = rw (t, value_at)

  short_place : one_byte input at ≡ true → place_after input at ≡ at + 1
  short_place t = rw (t, place_after)

  long_value : one_byte input at ≡ false → value_at input at ≡ byte_at input at % 128 + byte_at input (at + 1) * 128
  long_value t = rw (t, value_at)

  long_place : one_byte input at ≡ false → place_after input at ≡ at + 2
  long_place t = rw (t, place_after)

  -- a verdict, with a number and the place after it, is what reading comes to
  read_as :
      (w : Verdict) {v p : ℕ}
      → first_no (number_questions input at) ≡ w
      → value_at input at ≡ v
      → place_after input at ≡ p
      → number_answer w v p ≡ number_at input at
  unfolding number_at
  read_as w e a b = rw (e, a, b)

  refused_as : (r : Refusal) → first_no (number_questions input at) ≡ no_at (number_of r.reason) r.place → meaning (Err r) ≡ number_at input at
  unfolding number_at
  refused_as r e = rw e

  abbrev no_byte : Refusal
  no_byte = record { reason = NextByte; place = length input }

  abbrev bad_form : Refusal
  bad_form = record { reason = ShortestForm; place = at }

  -- no first byte
  pub none : length input ≤ at → meaning (Err no_byte) ≡ number_at input at
  unfolding number_questions
  none h = refused_as no_byte (rw (le-ltb _ _ h))

  module _ {low : ℕ} (h : at < length input) (e : low ≡ byte_at input at) where
    pub one : low < 128 → meaning (Ok (record { value = low; next = at + 1 })) ≡ number_at input at
    unfolding number_questions
    one l =
        let t : one_byte input at ≡ true = rw (← e) (lt-ltb _ _ l) in
        read_as all_yes (rw (lt-ltb _ _ h, t)) (short_value t ∙ sym e) (short_place t)

    module _ (l : 128 ≤ low) where
      -- no second byte
      pub cut : length input ≤ at + 1 → meaning (Err no_byte) ≡ number_at input at
      unfolding number_questions
      cut g = refused_as no_byte (rw (lt-ltb _ _ h, ← e, le-ltb _ _ l, le-ltb _ _ g))

      module _ {high : ℕ} (g : at + 1 < length input) (f : high ≡ byte_at input (at + 1)) where
        -- a second byte that is not needed, or that calls for a third
        pub needless : high ≡ 0 → meaning (Err bad_form) ≡ number_at input at
        unfolding number_questions
        needless z =
            let s : high < 1 = omega arith in
            refused_as bad_form (rw (lt-ltb _ _ h, ← e, le-ltb _ _ l, lt-ltb _ _ g, ← f, lt-leb _ _ s))

        pub third : 128 ≤ high → meaning (Err bad_form) ≡ number_at input at
        unfolding number_questions
        third z =
            let s : 1 ≤ high = omega arith in
            refused_as bad_form (rw (lt-ltb _ _ h, ← e, le-ltb _ _ l, lt-ltb _ _ g, ← f, le-leb _ _ s, le-ltb _ _ z))

        pub two : (high ≡ 0 → ⊥) → high < 128 → meaning (Ok (record { value = low % 128 + high * 128; next = at + 2 })) ≡ number_at input at
        unfolding number_questions
        two n z =
            let s : 1 ≤ high = omega arith in
            let t : one_byte input at ≡ false = rw (← e) (le-ltb _ _ l) in
            read_as all_yes (rw (lt-ltb _ _ h, t, lt-ltb _ _ g, ← f, le-leb _ _ s, lt-ltb _ _ z)) (long_value t ∙ rw (← e, ← f)) (long_place t)

-- ---- taking the answer apart

-- each question's number is above 0
pub numbered : (input : List ℕ) (at : ℕ) → Numbered (number_questions input at)
unfolding number_questions
numbered input at = (omega arith, (omega arith, (omega arith, tt)))

module _ (input : List ℕ) (at : ℕ) where
  past : 0 < place_after input at
  past = go (one_byte input at) refl
    where
      go : (b : Bool) → one_byte input at ≡ b → 0 < place_after input at
      go true t = omega (arith, short_place input at t)
      go false t = omega (arith, long_place input at t)

  pub reads : (x : Number) → meaning (Ok x) ≡ number_at input at → Reads sevens input at x.value x.next
  unfolding number_at
  reads x e = go (first_no (number_questions input at)) refl
    where
      go : (w : Verdict) → first_no (number_questions input at) ≡ w → Reads sevens input at x.value x.next
      go all_yes t = record { asked = t; value = sym (ap (λ (a : NumberAnswer). a.value) e); next = sym (ap (λ (a : NumberAnswer). a.next) e) }
      go (no_at n m) t =
          let z : 0 ≡ n = ap (λ (a : NumberAnswer). a.answer.number) e ∙ rw t in
          let y : (answer_of (first_no (number_questions input at)) 0).number ≡ 0 = rw t (sym z) in
          let x : first_no (number_questions input at) ≡ all_yes = accepted_when (number_questions input at) 0 (numbered input at) y in
          absurd (let w : no_at n m ≡ all_yes = sym t ∙ x in cc)

  pub refused : (r : Refusal) → meaning (Err r) ≡ number_at input at → first_no (number_questions input at) ≡ no_at (number_of r.reason) r.place
  unfolding number_at
  refused r e = go (first_no (number_questions input at)) refl
    where
      go : (w : Verdict) → first_no (number_questions input at) ≡ w → first_no (number_questions input at) ≡ no_at (number_of r.reason) r.place
      go all_yes t =
          let z : 0 ≡ place_after input at = ap (λ (a : NumberAnswer). a.next) e ∙ rw t in
          absurd (omega (arith, past))
      go (no_at n m) t =
          let z : refusal (number_of r.reason) r.place ≡ refusal n m = ap (λ (a : NumberAnswer). a.answer) e ∙ rw t in
          let y : number_of r.reason ≡ n = ap (λ a. a.number) z in
          let x : r.place ≡ m = ap (λ a. a.place) z in
          rw (y, x) t

-- the promise leaves no room: one Ok or one Err meets it
pub taken_apart :
    (input : List ℕ) (at : ℕ) (r : Result Number Refusal)
    → meaning r ≡ number_at input at
    → ReadAs (first_no (number_questions input at)) (record { value = (number_at input at).value; next = (number_at input at).next }) r
taken_apart input at (Ok x) e = let R = reads input at x e in (R.asked, rw (R.value, R.next))
taken_apart input at (Err r) e = refused input at r e

-- a question's number says which it is
abbrev reason_of : ℕ → Reason
reason_of n =
    get_or
    (Words ∷ Places ∷ Width ∷ BlockBytes ∷ BitCount ∷ LogRoom ∷ Entry ∷ BitByte ∷ NextByte ∷ ShortestForm ∷ FormNumber ∷ FillBits ∷ InputEnd ∷ OutputRoom ∷ Place ∷ OneLength ∷ Words ∷ SmallOrder ∷ [])
    n Words

reason_back : (r : Reason) → reason_of (number_of r) ≡ r
reason_back Places = refl
reason_back Width = refl
reason_back BlockBytes = refl
reason_back BitCount = refl
reason_back LogRoom = refl
reason_back Entry = refl
reason_back BitByte = refl
reason_back NextByte = refl
reason_back ShortestForm = refl
reason_back FormNumber = refl
reason_back FillBits = refl
reason_back InputEnd = refl
reason_back OutputRoom = refl
reason_back Place = refl
reason_back OneLength = refl
reason_back SmallOrder = refl
reason_back Words = refl

pub read_once : {A : Type 0} (v : Verdict) (x : A) (r r' : Result A Refusal) → ReadAs v x r → ReadAs v x r' → r ≡ r'
read_once v x (Ok y) (Ok y') R R' = rw (R.1, R'.1)
read_once v x (Ok y) (Err e) R R' = absurd (let z : no_at (number_of e.reason) e.place ≡ all_yes = sym R' ∙ R.0 in cc)
read_once v x (Err e) (Ok y) R R' = absurd (let z : no_at (number_of e.reason) e.place ≡ all_yes = sym R ∙ R'.0 in cc)
read_once v x (Err e) (Err e') R R' =
    let z : no_at (number_of e.reason) e.place ≡ no_at (number_of e'.reason) e'.place = sym R ∙ R' in
    let n : number_of e.reason ≡ number_of e'.reason = cc in
    let p : e.place ≡ e'.place = cc in
    let q : e.reason ≡ e'.reason = sym (reason_back e.reason) ∙ ap reason_of n ∙ reason_back e'.reason in
    ap Err (ap (λ m. record { reason = m; place = e.place }) q ∙ ap (λ m. record { reason = e'.reason; place = m }) p)

pub only_one :
    (input : List ℕ) (at : ℕ) (r r' : Result Number Refusal)
    → meaning r ≡ number_at input at
    → meaning r' ≡ number_at input at
    → r ≡ r'
only_one input at r r' e e' =
    read_once (first_no (number_questions input at)) _ r r' (taken_apart input at r e) (taken_apart input at r' e')

-- ---- what is written is read back

pub bytes_one : (v : ℕ) → v < 128 → number_bytes v ≡ v ∷ []
unfolding number_bytes
bytes_one v h = rw (number_bytes, lt-ltb v 128 h)

pub bytes_two : (v : ℕ) → 128 ≤ v → number_bytes v ≡ (v % 128 + 128) ∷ (v / 128) ∷ []
unfolding number_bytes
bytes_two v h = rw (number_bytes, le-ltb v 128 h)

pub bytes_few : (v : ℕ) → (1 ≤ length (number_bytes v)) × (length (number_bytes v) ≤ 2)
bytes_few v = go (dec_lt v 128)
  where
    go : Dec (v < 128) → (1 ≤ length (number_bytes v)) × (length (number_bytes v) ≤ 2)
    go (yes l) = rw (bytes_one v l) (omega arith, omega arith)
    go (no l) = rw (bytes_two v (omega arith)) (omega arith, omega arith)

-- .. in a form: a number of fourteen bits, with whatever stands before and behind it
abbrev pub ReadBack : NumberForm → Type 0
ReadBack form =
    (xs ys : List ℕ) (v : ℕ)
    → v < 16384
    → Reads form (xs ++ (form.bytes v ++ ys)) (length xs) v (length xs + length (form.bytes v))

pub number-back :
    (xs ys : List ℕ) (v : ℕ)
    → v < 16384
    → Reads sevens (xs ++ (number_bytes v ++ ys)) (length xs) v (length xs + length (number_bytes v))
number-back xs ys v h = go (dec_lt v 128)
  where
    go : Dec (v < 128) → Reads sevens (xs ++ (number_bytes v ++ ys)) (length xs) v (length xs + length (number_bytes v))
    go (yes l) =
        rw (bytes_one v l)
        (reads (xs ++ v ∷ ys) (length xs) (record { value = v; next = length xs + 1 })
        (one (xs ++ v ∷ ys) (length xs) (omega (arith, length-append xs (v ∷ ys))) (sym (get_or-append_seam xs v ys 0)) l))
    go (no l) =
        let a = v % 128 + 128 in
        let b = v / 128 in
        let s = xs ++ a ∷ b ∷ ys in
        let e : a % 128 + b * 128 ≡ v = omega arith in
        rw (bytes_two v (omega arith))
        (rw e at
        (reads s (length xs) (record { value = a % 128 + b * 128; next = length xs + 2 })
        (two s (length xs) (omega (arith, length-append xs (a ∷ b ∷ ys))) (sym (get_or-append_seam xs a (b ∷ ys) 0)) (omega arith)
        (omega (arith, length-append xs (a ∷ b ∷ ys))) (sym (get_or-append-add xs (a ∷ b ∷ ys) 1 0)) (omega arith) (omega arith))))

-- a number that is read has two groups of seven bits at most; it is 0 where it is refused
pub value_small : (input : List ℕ) (at : ℕ) → (number_at input at).value < 16384
unfolding number_at number_questions
value_small input at = go (first_no (number_questions input at)) refl
  where
    wide : (b : Bool) → one_byte input at ≡ b → first_no (number_questions input at) ≡ all_yes → value_at input at < 16384
    wide true t e = omega (arith, short_value input at t, ltb-true (byte_at input at) 128 t)
    wide false t e =
        let high = byte_at input (at + 1) in
        let third : List Question = ask 9 at (one_byte input at || ends high) ∷ [] in
        let second : List Question = ask 8 (length input) (one_byte input at || ltb (at + 1) (length input)) ∷ third in
        let passes : first_no third ≡ all_yes =
        (passed 8 (length input) (one_byte input at || ltb (at + 1) (length input)) third (passed 8 (length input) (ltb at (length input)) second e).rest).rest
        in
        let ended : ends high ≡ true = rw t at (passed 9 at (one_byte input at || ends high) [] passes).here in
        omega (arith, long_value input at t, ltb-true high 128 ((and-eq-true_iff (leb 1 high) (ltb high 128)).0 ended).1)

    go : (w : Verdict) → first_no (number_questions input at) ≡ w → (number_at input at).value < 16384
    go all_yes t = rw t (wide (one_byte input at) refl t)
    go (no_at q p) t = rw t (omega arith)
