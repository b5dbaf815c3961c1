-- What a row says of the table it was gathered from, and what `gather` makes.
-- Assumes nothing.
use mathlib.Core.Path.{◌≡◌, refl, ◌∙◌}
use mathlib.Core.Bool.{cond}
use mathlib.Core.List.{List}
use Prim.Native.Nat.{ℕ, zero, suc, ◌+◌, ◌-◌, ◌≤◌, ◌<◌}
use native.Mathlib.Omega.{arith}
use native.Mathlib.Decide.{dec_lt}
use lib.Dec.{ltb}
use lib.ListN.{length, get_or, take, replicate}
use borrow.Rule.Slice.PartMut.{put_mid}
use Rattle.std.proofs.Math.ListN.{get_or-append}
use Rattle.std.proofs.lemmas.List.{get_or-append_right, get_or-replicate, get_or-take, length-take, length-replicate}
use borrow.Author.Tests.{lt-ltb, le-ltb, ne_eqb}
use Rattle.steps.specs.Sweeps.{look, seek}
use Rattle.control_rows.specs.Rows.{sixteens, Gathered, Padded}

-- ---- for the callers

pub look_gathered : (place : ℕ → ℕ) (m : ℕ) (xs row : List ℕ) (p : ℕ) → Gathered place m xs row
    → look (λ i. i) m row p ≡ look place m xs p
unfolding look
look_gathered place m xs row p G = go (dec_lt p m)
  where
    go : Dec (p < m) → cond (ltb p m) (get_or row p 0) p ≡ cond (ltb p m) (get_or xs (place p) 0) p
    go (yes l) = rw (lt-ltb p m l) (G.at p l)
    go (no l) = rw (le-ltb p m (omega arith))

pub seek_gathered : (place : ℕ → ℕ) (m : ℕ) (xs row : List ℕ) (a : ℕ) → Gathered place m xs row
    → seek (λ i. i) m row a ≡ seek place m xs a
unfolding seek
seek_gathered place zero xs row a G = refl
seek_gathered place (suc m) xs row a G =
    rw (G.at m (omega arith), seek_gathered place m xs row a (record { at = λ i h. G.at i (omega arith) }))

-- ---- the padding is never found

seek-past : (m n : ℕ) (row : List ℕ) (a : ℕ) → ((i : ℕ) → m ≤ i → i < n + m → get_or row i 0 ≡ a → ⊥)
    → seek (λ i. i) (n + m) row a ≡ seek (λ i. i) m row a
unfolding seek
seek-past m zero row a h = let e : 0 + m ≡ m = omega arith in rw e
seek-past m (suc n) row a h =
    let e : suc n + m ≡ suc (n + m) = omega arith in
    rw (e, seek, ne_eqb (get_or row (n + m) 0) a (h (n + m) (omega arith) (omega arith)))
    (seek-past m n row a (λ i l u. h i l (omega arith)))

pub seek-padded : (m : ℕ) (row : List ℕ) (a : ℕ) → a < 65535 → Padded m row → seek (λ i. i) (sixteens m) row a ≡ seek (λ i. i) m row a
unfolding Padded
seek-padded m row a h P =
    let n = sixteens m - m in
    let e : sixteens m ≡ n + m = omega arith in
    rw e (seek-past m n row a (λ i l u q. omega (arith, P i l (omega arith))))

-- ---- gathering: the values, then the padding

-- the m values stand, and after them the padding was written up to a whole sixteen
pub padded : (place : ℕ → ℕ) (m n : ℕ) (xs row ys : List ℕ) → n ≡ sixteens m → n ≤ length row → Gathered place m xs row
    → ys ≡ replicate (n - m) 65535 → Gathered place m xs (put_mid m (n - m) row ys) × Padded m (put_mid m (n - m) row ys)
unfolding Padded
padded place m n xs row ys e l G f = (record { at = λ i h. before i h ∙ G.at i h }, λ i h u. behind i h (omega arith))
  where
    front : length (take m row) ≡ m
    front = omega (arith, length-take m row)

    before : (i : ℕ) → i < m → get_or (put_mid m (n - m) row ys) i 0 ≡ get_or row i 0
    before i h = get_or-append (take m row) _ 0 i (omega (arith, front)) ∙ get_or-take m row i 0 h

    behind : (i : ℕ) → m ≤ i → i < n → get_or (put_mid m (n - m) row ys) i 0 ≡ 65535
    behind i h u =
        get_or-append_right (take m row) _ m i 0 front h
        ∙ rw f (get_or-append (replicate (n - m) 65535) _ 0 (i - m) (omega (arith, length-replicate {A = ℕ} (n - m) 65535))
        ∙ get_or-replicate (n - m) (i - m) 65535 0 (omega arith))
