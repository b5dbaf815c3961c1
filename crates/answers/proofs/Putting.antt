-- Parts put into a buffer one behind another, and items put over its front one by one.
-- Assumes nothing.
use mathlib.Core.Path.{◌≡◌, refl, sym, ap, ◌∙◌}
use mathlib.Core.List.{List, [], ◌∷◌, ◌++◌}
use Prim.Native.Nat.{ℕ, ◌+◌, ◌≤◌, ◌<◌}
use native.Mathlib.Numerals.{add-one}
use native.Mathlib.Omega.{arith}
use lib.ListN.{length, get_or, take, set, length-append, length-take, length-set}
use lib.Seq.{take-suc, take_all, length-take-le}
use Rattle.answers.specs.Buffers.{overlay, Put}
use Rattle.answers.proofs.Buffers.{overlay_none, overlay_more, overlay_then, overlay_read}

-- ---- one part behind another

pub put_none : (buf : List ℕ) (at : ℕ) → Put buf at [] at buf
put_none buf at = let z : at ≡ at + 0 = omega arith in record { place = z; buffer = sym (overlay_none buf at) }

pub put_then :
    {a : List ℕ} {at : ℕ} {xs : List ℕ} {r : ℕ} {b : List ℕ} {ys : List ℕ} {q : ℕ} {c : List ℕ}
    → at + length xs ≤ length a
    → Put a at xs r b
    → Put b r ys q c
    → Put a at (xs ++ ys) q c
put_then {a} {at} {xs} {r} {b} {ys} h P Q =
    record {
      place = omega (arith, P.place, Q.place, length-append xs ys);
      buffer = Q.buffer ∙ rw (P.buffer, P.place) (overlay_then a at xs ys h);
    }

-- what was put at the front is there
pub put_front : {a bytes : List ℕ} {r : ℕ} {b : List ℕ} → Put a 0 bytes r b → take r b ≡ bytes
put_front {a} {bytes} P = let z : 0 + length bytes ≡ length bytes = omega arith in rw (P.buffer, P.place, z) (overlay_read a bytes)

pub put_within : {a bytes : List ℕ} {r : ℕ} {b : List ℕ} → Put a 0 bytes r b → r ≤ length b
put_within {bytes = bytes} {r = r} {b = b} P = omega (arith, P.place, ap length (put_front P), length-take r b)

pub put_length : {a bytes : List ℕ} {r : ℕ} {b : List ℕ} → Put a 0 bytes r b → r ≡ length bytes
put_length P = omega (arith, P.place)

-- ---- item by item, over the front

-- what a loop keeps that puts items there: the first i of n are there
pub record Over (items before out : List ℕ) (n i : ℕ) : Type 0 where
  pub within : i ≤ n
  pub same : length out ≡ length before
  pub buffer : out ≡ overlay before 0 (take i items)

pub over_starts : (items before : List ℕ) (n : ℕ) → Over items before before n 0
over_starts items before n = record { within = omega arith; same = refl; buffer = sym (overlay_none before 0) }

pub over_more :
    (items before out : List ℕ) (n i x : ℕ)
    → i < n
    → n ≤ length items
    → n ≤ length before
    → x ≡ get_or items i 0
    → Over items before out n i
    → Over items before (set out i x) n (i + 1)
over_more items before out n i x h g l e R =
    let t : length (take i items) ≡ i = length-take-le i items (omega arith) in
    let z : 0 + length (take i items) ≡ i = omega arith in
    let more : take i items ++ (x ∷ []) ≡ take (i + 1) items = rw (e, add-one) (sym (take-suc items i 0 (omega arith))) in
    let one : set (overlay before 0 (take i items)) i x ≡ overlay before 0 (take i items ++ (x ∷ [])) =
    ap (λ m. set (overlay before 0 (take i items)) m x) (sym z) ∙ overlay_more before 0 (take i items) x (omega arith)
    in
    record {
      within = omega arith;
      same = length-set out i x ∙ R.same;
      buffer = rw R.buffer (one ∙ ap (overlay before 0) more);
    }

pub over-ends :
    (items before out : List ℕ) (n i : ℕ) → n ≤ i → Over items before out n i → out ≡ overlay before 0 (take n items)
over-ends items before out n i h R = let e : i ≡ n = omega (arith, R.within) in rw e at R.buffer

-- the items are the values of f at the places
module _ (f : ℕ → ℕ) (items : List ℕ) (n : ℕ) (long : length items ≡ n) (each : (i : ℕ) → i < n → get_or items i 0 ≡ f i) where
  pub each_more : {before out : List ℕ} {i x : ℕ} → i < n → n ≤ length before → x ≡ f i → Over items before out n i → Over items before (set out i x) n (i + 1)
  each_more {before} {out} {i} {x} h g e R = over_more items before out n i x h (omega arith) g (e ∙ sym (each i h)) R

  pub each-ends : {before out : List ℕ} {i : ℕ} → n ≤ i → Over items before out n i → out ≡ overlay before 0 items
  each-ends {before} {out} {i} h R = over-ends items before out n i h R ∙ ap (overlay before 0) (take_all n items (omega arith))
