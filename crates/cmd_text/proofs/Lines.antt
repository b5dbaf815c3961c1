-- Bytes put into a buffer, one part behind another; how long the texts get.
-- Assumes nothing.
use mathlib.Core.Path.{◌≡◌, refl, sym, ap, ◌∙◌}
use mathlib.Core.Bool.{Bool, true, false}
use mathlib.Core.List.{List, [], ◌∷◌, ◌++◌}
use Prim.Native.Nat.{ℕ, zero, suc, ◌+◌, ◌-◌, ◌/◌, ◌%◌, ◌^◌, ◌≤◌, ◌<◌}
use native.Mathlib.Numerals.{add-one}
use native.Mathlib.Omega.{arith}
use lib.Dec.{eqb}
use lib.ListN.{length, get_or, take, set, length-append, length-set}
use lib.Seq.{take-suc, take_all, length-take-le, drop-drop}
use borrow.Rule.Slice.PartMut.{put_mid}
use borrow.Author.Tests.{eqb-true, eqb-false}
use Rattle.answers.specs.declared.Reason.{Reason}
use Rattle.answers.specs.declared.Reason.TheVariants.{Places, Width, BlockBytes, BitCount, LogRoom, Entry, BitByte, NextByte, ShortestForm, FormNumber, FillBits, InputEnd, OutputRoom, Place, OneLength, SmallOrder, Words}
use Rattle.answers.specs.declared.Refusal.{Refusal}
use Rattle.answers.specs.Answers.{number_of}
use Rattle.answers.specs.Buffers.{overlay, Put}
use Rattle.answers.proofs.Buffers.{overlay_none, overlay-one, overlay_more, overlay-length}
use Rattle.answers.proofs.Putting.{put_then}
use Rattle.cmd_text.specs.Text.{text, decimal, character, characters, bits_text, refusal_line}
use Rattle.cmd_text.proofs.Decimal.{decimal-one, decimal_more, digits_few}

-- ---- a part at a time

pub put_kept : {a : List ℕ} {at : ℕ} {xs : List ℕ} {r : ℕ} {b : List ℕ} → at + length xs ≤ length a → Put a at xs r b → length b ≡ length a
put_kept {a} {at} {xs} h P = ap length P.buffer ∙ overlay-length a at xs h

module _ (a : List ℕ) (at : ℕ) (xs ys : List ℕ) (h : at + length (xs ++ ys) ≤ length a) where
  -- there is room for the first part, and behind it for the rest
  pub room_first : at + length xs ≤ length a
  room_first = omega (arith, length-append xs ys)

  room_rest : {r : ℕ} {b : List ℕ} → Put a at xs r b → r + length ys ≤ length b
  room_rest P = omega (arith, P.place, put_kept room_first P, length-append xs ys)

  pub put_both : {r : ℕ} {b : List ℕ} {q : ℕ} {c : List ℕ} → Put a at xs r b → Put b r ys q c → Put a at (xs ++ ys) q c
  put_both P Q = put_then room_first P Q

-- a part as it is copied in
pub put_copied : (a : List ℕ) (at : ℕ) (xs : List ℕ) {ys : List ℕ} → ys ≡ xs → Put a at xs (at + length xs) (put_mid at (at + length xs - at) a ys)
unfolding overlay
put_copied a at xs e =
    let n : at + length xs - at ≡ length xs = omega arith in
    record { place = refl; buffer = rw (e, n, drop-drop (length xs) at a) }

-- three parts: the room behind the first for the second, and behind that for the third
module _ (ys zs : List ℕ) {a : List ℕ} {at : ℕ} {xs : List ℕ} {r : ℕ} {b : List ℕ} (P : Put a at xs r b) (h : at + length (xs ++ (ys ++ zs)) ≤ length a) where
  rest : r + length (ys ++ zs) ≤ length b
  rest = room_rest a at xs (ys ++ zs) h P

  pub room_second : r + length ys ≤ length b
  room_second = room_first b r ys zs rest

  pub room_third : {q : ℕ} {c : List ℕ} → Put b r ys q c → q + length zs ≤ length c
  room_third Q = room_rest b r ys zs rest Q

  pub put_three : {q : ℕ} {c : List ℕ} {t : ℕ} {d : List ℕ} → Put b r ys q c → Put c q zs t d → Put a at (xs ++ (ys ++ zs)) t d
  put_three Q R = put_both a at xs (ys ++ zs) h P (put_both b r ys zs rest Q R)

-- ---- item by item

-- what a loop keeps that puts items from a place on: the first i are there
pub record Laying (items before : List ℕ) (at : ℕ) (out : List ℕ) (i : ℕ) : Type 0 where
  pub within : i ≤ length items
  pub same : length out ≡ length before
  pub buffer : out ≡ overlay before at (take i items)

pub lay_starts : (items before : List ℕ) (at : ℕ) → Laying items before at before 0
lay_starts items before at = record { within = omega arith; same = refl; buffer = sym (overlay_none before at) }

module _ (items before : List ℕ) (at : ℕ) (out : List ℕ) (i : ℕ) (L : Laying items before at out i) where
  pub lay_more :
      (x : ℕ)
      → i < length items
      → at + length items ≤ length before
      → x ≡ get_or items i 0
      → Laying items before at (set out (at + i) x) (i + 1)
  lay_more x h g e =
      let t : length (take i items) ≡ i = length-take-le i items (omega arith) in
      let more : take i items ++ (x ∷ []) ≡ take (i + 1) items = rw (e, add-one) (sym (take-suc items i 0 h)) in
      let one : set (overlay before at (take i items)) (at + i) x ≡ overlay before at (take i items ++ (x ∷ [])) =
      ap (λ m. set (overlay before at (take i items)) (at + m) x) (sym t) ∙ overlay_more before at (take i items) x (omega arith)
      in
      record {
        within = omega arith;
        same = length-set out (at + i) x ∙ L.same;
        buffer = rw L.buffer (one ∙ ap (overlay before at) more);
      }

  pub lay_ends : length items ≤ i → {r : ℕ} → r ≡ at + length items → Put before at items r out
  lay_ends h e = record { place = e; buffer = L.buffer ∙ ap (overlay before at) (take_all i items h) }

-- ---- a number

pub put_digit : (out : List ℕ) (at v : ℕ) → v < 10 → at < length out → Put out at (decimal v) (at + 1) (set out at (48 + v))
put_digit out at v h l = rw (decimal-one v h) (record { place = refl; buffer = sym (overlay-one out at (48 + v) l) })

pub put_last :
    {a : List ℕ} {at : ℕ} {r : ℕ} {b : List ℕ} (v : ℕ)
    → 10 ≤ v
    → at + length (decimal v) ≤ length a
    → Put a at (decimal (v / 10)) r b
    → Put a at (decimal v) (r + 1) (set b r (48 + v % 10))
put_last {a} {at} {r} {b} v h g P =
    let ds = decimal (v / 10) in
    let x = 48 + v % 10 in
    let k : at + length (ds ++ (x ∷ [])) ≤ length a = rw (← decimal_more v h) g in
    let l : r < length b = omega (arith, room_rest a at ds (x ∷ []) k P) in
    rw (decimal_more v h) (put_both a at ds (x ∷ []) k P (record { place = refl; buffer = sym (overlay-one b r x l) }))

-- ---- whether there is anything

pub empty_is : {b : Bool} {n : ℕ} → b ≡ eqb n 0 → b ≡ true → n ≡ 0
empty_is {n = n} e t = eqb-true n 0 (sym e ∙ t)

pub empty_not : {b : Bool} {n : ℕ} → b ≡ eqb n 0 → b ≡ false → n ≡ 0 → ⊥
empty_not {n = n} e t = eqb-false n 0 (sym e ∙ t)

-- ---- the bits

pub length-characters : (bs : List ℕ) → length (characters bs) ≡ length bs
unfolding characters
length-characters [] = refl
length-characters (b ∷ bs) = ap suc (length-characters bs)

pub character-at : (bs : List ℕ) (i : ℕ) → i < length bs → get_or (characters bs) i 0 ≡ character (get_or bs i 0)
unfolding characters
character-at [] i h = absurd (omega arith)
character-at (b ∷ bs) zero h = refl
character-at (b ∷ bs) (suc i) h = character-at bs i (omega arith)

pub bits_none : (bs : List ℕ) → length bs ≡ 0 → bits_text bs ≡ text "-"
unfolding bits_text
bits_none [] e = refl
bits_none (b ∷ bs) e = absurd (omega arith)

pub bits_some : (bs : List ℕ) → (length bs ≡ 0 → ⊥) → bits_text bs ≡ characters bs
unfolding bits_text
bits_some [] n = absurd (n refl)
bits_some (b ∷ bs) n = refl

pub bits_long : (bs : List ℕ) → (length bs ≡ 0 → ⊥) → length (bits_text bs) ≡ length bs
bits_long bs n = ap length (bits_some bs n) ∙ length-characters bs

-- one character for each bit, and one for none
pub bits_within : (bs : List ℕ) (m : ℕ) → 1 ≤ m → length bs ≤ m → length (bits_text bs) ≤ m
bits_within [] m g h = omega (arith, ap length (bits_none [] refl))
bits_within (b ∷ bs) m g h = omega (arith, bits_long (b ∷ bs) (λ e. omega arith))

-- the longest refusal, of any two numbers of the machine: 8 + 20 + 4 + 20 + 1 bytes
pub refusal_fits : (q p : ℕ) → q < 2 ^ 64 → p < 2 ^ 64 → length (refusal_line q p) ≤ 53
unfolding refusal_line
refusal_fits q p h g =
    let a : length (decimal q) ≤ 20 = digits_few 19 q (let z : q < 100000000000000000000 = omega arith in z) in
    let b : length (decimal p) ≤ 20 = digits_few 19 p (let z : p < 100000000000000000000 = omega arith in z) in
    simp length-append (omega (arith, a, b))

-- .. so each refusal's
number_few : (r : Reason) → number_of r < 2 ^ 64
number_few Places = omega arith
number_few Width = omega arith
number_few BlockBytes = omega arith
number_few BitCount = omega arith
number_few LogRoom = omega arith
number_few Entry = omega arith
number_few BitByte = omega arith
number_few NextByte = omega arith
number_few ShortestForm = omega arith
number_few FormNumber = omega arith
number_few FillBits = omega arith
number_few InputEnd = omega arith
number_few OutputRoom = omega arith
number_few Place = omega arith
number_few OneLength = omega arith
number_few SmallOrder = omega arith
number_few Words = omega arith

pub refused_fits : (r : Refusal) → r.place < 2 ^ 64 → length (refusal_line (number_of r.reason) r.place) ≤ 53
refused_fits r h = refusal_fits (number_of r.reason) r.place (number_few r.reason) h
