-- Bytes written one after the other, and two parts of bytes that are exchanged so.
-- Assumes nothing.
use Rattle.std.proofs.Common.{◌≡◌, ℕ, zero, suc, ◌+◌, ◌<◌, ◌≤◌, List, [], ◌∷◌, ◌++◌, length, get_or, take, drop, set, sym, refl, ap, ◌∙◌, arith, length-set, length-take-le, get_or-take, get_or-drop, get_or-set_other, get_or-set_same, length-drop}
use native.Mathlib.Decide.{ℕ_discrete}
use Rattle.std.proofs.lemmas.List.{ext_get_or}
use lib.Seq.{set-append_left, set-get_or, set_comm}
use borrow.Rule.Slice.PartMut.{put_mid, mid_of, post_of, put_same}
use Rattle.network.specs.Move.{switch}
use Rattle.exchange_words.specs.Bytes.{bytes_switched}
use Rattle.exchange_words.specs.Words.{from, written, pick}

pub length-written : (n p : ℕ) (f : ℕ → ℕ) (l : List ℕ) → length (written n p f l) ≡ length l
unfolding written
length-written zero p f l = refl
length-written (suc n) p f l = length-set (written n p f l) (p + n) (f n) ∙ length-written n p f l

pub written_alike : (n p : ℕ) (f g : ℕ → ℕ) (l : List ℕ) → ((j : ℕ) → j < n → f j ≡ g j) → written n p f l ≡ written n p g l
unfolding written
written_alike zero p f g l same = refl
written_alike (suc n) p f g l same =
    ap (λ u. set u (p + n) (f n)) (written_alike n p f g l (λ j h. same j (omega arith)))
    ∙ ap (set (written n p g l) (p + n)) (same n (omega arith))

-- what stands there already, written again
pub written_same : (n p : ℕ) (l : List ℕ) → written n p (from p l) l ≡ l
unfolding written
written_same zero p l = refl
written_same (suc n) p l =
    ap (λ u. set u (p + n) (get_or l (p + n) 0)) (written_same n p l) ∙ set-get_or l (p + n) 0

-- ---- a place that is not written

get_d_kept : (n p q : ℕ) (f : ℕ → ℕ) (l : List ℕ) → ((j : ℕ) → j < n → q ≡ p + j → 1 ≤ 0) → get_or (written n p f l) q 0 ≡ get_or l q 0
unfolding written
get_d_kept zero p q f l other = refl
get_d_kept (suc n) p q f l other =
    get_or-set_other (written n p f l) (p + n) q (f n) 0 (λ e. absurd (omega (arith, other n (omega arith) e)))
    ∙ get_d_kept n p q f l (λ j h. other j (omega arith))

set_first : (n p q v : ℕ) (f : ℕ → ℕ) (l : List ℕ) → ((j : ℕ) → j < n → q ≡ p + j → 1 ≤ 0)
    → written n p f (set l q v) ≡ set (written n p f l) q v
unfolding written
set_first zero p q v f l other = refl
set_first (suc n) p q v f l other =
    ap (λ u. set u (p + n) (f n)) (set_first n p q v f l (λ j h. other j (omega arith)))
    ∙ set_comm (written n p f l) q (p + n) v (f n) (λ e. absurd (omega (arith, other n (omega arith) e)))

-- ---- a part of a list, written

set_append_right : (xs ys : List ℕ) (j v : ℕ) → set (xs ++ ys) (length xs + j) v ≡ xs ++ set ys j v
set_append_right [] ys j v = ap (λ i. set ys i v) (let e : 0 + j ≡ j = omega arith in e)
set_append_right (x ∷ xs) ys j v =
    ap (λ i. set (x ∷ (xs ++ ys)) i v) (let e : length (x ∷ xs) + j ≡ suc (length xs + j) = omega arith in e)
    ∙ ap (λ u. x ∷ u) (set_append_right xs ys j v)

set-part : (a k j v : ℕ) (xs ys : List ℕ) → a ≤ length xs → j < length ys → put_mid a k xs (set ys j v) ≡ set (put_mid a k xs ys) (a + j) v
set-part a k j v xs ys h l =
    let n : length (take a xs) ≡ a = length-take-le a xs h in
    ap (λ u. take a xs ++ u) (sym (set-append_left ys (post_of a k xs) j v l))
    ∙ sym (set_append_right (take a xs) (ys ++ post_of a k xs) j v)
    ∙ ap (λ i. set (put_mid a k xs ys) (i + j) v) n

pub part-written : (n i a k : ℕ) (f : ℕ → ℕ) (xs ys : List ℕ) → a ≤ length xs → i + n ≤ length ys
    → put_mid a k xs (written n i f ys) ≡ written n (a + i) f (put_mid a k xs ys)
unfolding written
part-written zero i a k f xs ys h l = refl
part-written (suc n) i a k f xs ys h l =
    set-part a k (i + n) (f n) xs (written n i f ys) h (rw (length-written n i f ys) (omega arith))
    ∙ ap (λ u. set u (a + (i + n)) (f n)) (part-written n i a k f xs ys h (omega arith))
    ∙ ap (λ q. set (written n (a + i) f (put_mid a k xs ys)) q (f n)) (let e : a + (i + n) ≡ a + i + n = omega arith in e)

-- ---- n bytes taken from place p on

pub record Taken (n p : ℕ) (l part : List ℕ) : Type 0 where
  pub long : length part ≡ n
  pub here : (j : ℕ) → j < n → get_or part j 0 ≡ from p l j

pub taken : (n k p : ℕ) (l part : List ℕ) → k ≡ n → p + n ≤ length l → part ≡ take k (drop p l) → Taken n p l part
taken n k p l part size fits is =
    record {
      long = ap length is ∙ length-take-le k (drop p l) (omega (arith, length-drop p l)) ∙ size;
      here = λ j h. ap (λ (u : List ℕ). get_or u j 0) is ∙ get_or-take k (drop p l) j 0 (omega arith) ∙ get_or-drop p l j 0;
    }

-- ---- bytes written over a whole part

get_or-written : (n p j : ℕ) (f : ℕ → ℕ) (l : List ℕ) → j < n → p + n ≤ length l → get_or (written n p f l) (p + j) 0 ≡ f j
unfolding written
get_or-written zero p j f l h fits = absurd (omega arith)
get_or-written (suc n) p j f l h fits = go (λ m. get_or-written n p j f l m (omega arith)) (ℕ_discrete j n)
  where
    go : (j < n → get_or (written n p f l) (p + j) 0 ≡ f j) → Dec (j ≡ n) → get_or (set (written n p f l) (p + n) (f n)) (p + j) 0 ≡ f j
    go rest (yes same) = rw same (get_or-set_same (written n p f l) (p + n) (f n) 0 (rw (length-written n p f l) (omega arith)))
    go rest (no other) =
        get_or-set_other (written n p f l) (p + n) (p + j) (f n) 0 (λ e. other (omega arith))
        ∙ rest (omega (arith, other))

whole-written : (n : ℕ) (f : ℕ → ℕ) (xs ys : List ℕ) → length xs ≡ n → length ys ≡ n → ((j : ℕ) → j < n → get_or ys j 0 ≡ f j)
    → ys ≡ written n 0 f xs
whole-written n f xs ys hx hy same =
    ext_get_or 0 ys (written n 0 f xs) (hy ∙ sym hx ∙ sym (length-written n 0 f xs))
    (λ j h. same j (omega arith) ∙ sym (get_or-written n 0 j f xs (omega arith) (omega arith))
    ∙ ap (λ i. get_or (written n 0 f xs) i 0) (let e : 0 + j ≡ j = omega arith in e))

pub part-filled : (n a k : ℕ) (f : ℕ → ℕ) (xs ys : List ℕ) → a + n ≤ length xs → k ≡ n → length ys ≡ n → ((j : ℕ) → j < n → get_or ys j 0 ≡ f j)
    → put_mid a k xs ys ≡ written n a f xs
part-filled n a k f xs ys h size long same =
    let mid : List ℕ = mid_of a k xs in
    let whole : length mid ≡ n = length-take-le k (drop a xs) (omega (arith, length-drop a xs)) ∙ size in
    ap (put_mid a k xs) (whole-written n f mid ys whole long same)
    ∙ part-written n 0 a k f xs mid (omega arith) (omega arith)
    ∙ ap (λ q. written n q f (put_mid a k xs mid)) (let e : a + 0 ≡ a = omega arith in e)
    ∙ ap (written n a f) (put_same a k xs)

-- ---- two parts exchanged

pub record Picked (s x y x' y' : ℕ) : Type 0 where
  pub lower : x' ≡ pick s x y
  pub upper : y' ≡ pick s y x

crossed : (n a gap : ℕ) (l : List ℕ) → n ≤ gap
    → written n a (from (a + gap) l) (written n (a + gap) (from a l) l) ≡ bytes_switched a gap 1 n l
unfolding written bytes_switched switch
crossed zero a gap l h = refl
crossed (suc n) a gap l h =
    let b : ℕ = a + gap in
    let upper : List ℕ = written n b (from a l) l in
    let both : List ℕ = written n a (from b l) upper in
    let earlier : both ≡ bytes_switched a gap 1 n l = crossed n a gap l (omega arith) in
    let at : b + n ≡ a + n + gap = omega arith in
    let at_a : get_or both (a + n) 0 ≡ get_or l (a + n) 0 =
    get_d_kept n a (a + n) (from b l) upper (λ j m e. omega arith) ∙ get_d_kept n b (a + n) (from a l) l (λ j m e. omega arith) in
    let at_b : get_or both (a + n + gap) 0 ≡ get_or l (b + n) 0 =
    get_d_kept n a (a + n + gap) (from b l) upper (λ j m e. omega arith) ∙ get_d_kept n b (a + n + gap) (from a l) l (λ j m e. omega arith)
    ∙ ap (λ i. get_or l i 0) (sym at) in
    ap (λ u. set u (a + n) (get_or l (b + n) 0)) (set_first n a (b + n) (get_or l (a + n) 0) (from b l) upper (λ j m e. omega arith))
    ∙ set_comm both (b + n) (a + n) (get_or l (a + n) 0) (get_or l (b + n) 0) (λ e. omega arith)
    ∙ ap (λ v. set (set both (a + n) v) (b + n) (get_or l (a + n) 0)) (sym at_b)
    ∙ ap (λ v. set (set both (a + n) (get_or both (a + n + gap) 0)) (b + n) v) (sym at_a)
    ∙ ap (λ i. set (set both (a + n) (get_or both (a + n + gap) 0)) i (get_or both (a + n) 0)) at
    ∙ ap (λ u. set (set u (a + n) (get_or u (a + n + gap) 0)) (a + n + gap) (get_or u (a + n) 0)) earlier

still : (n a gap : ℕ) (l : List ℕ) → bytes_switched a gap 0 n l ≡ l
unfolding bytes_switched switch
still zero a gap l = refl
still (suc n) a gap l = still n a gap l

-- n bytes of two parts, of which each pair is switched, are n bytes switched
pub parts_switched : (n a gap s : ℕ) (l : List ℕ) (f g : ℕ → ℕ) → s < 2 → n ≤ gap
    → ((j : ℕ) → j < n → Picked s (get_or l (a + j) 0) (get_or l (a + gap + j) 0) (f j) (g j))
    → written n a f (written n (a + gap) g l) ≡ bytes_switched a gap s n l
parts_switched n a gap zero l f g hs h p =
    ap (written n a f) (written_alike n (a + gap) g (from (a + gap) l) l (λ j m. (p j m).upper) ∙ written_same n (a + gap) l)
    ∙ written_alike n a f (from a l) l (λ j m. (p j m).lower)
    ∙ written_same n a l
    ∙ sym (still n a gap l)
parts_switched n a gap (suc zero) l f g hs h p =
    ap (written n a f) (written_alike n (a + gap) g (from a l) l (λ j m. (p j m).upper))
    ∙ written_alike n a f (from (a + gap) l) (written n (a + gap) (from a l) l) (λ j m. (p j m).lower)
    ∙ crossed n a gap l h
parts_switched n a gap (suc (suc s)) l f g hs h p = absurd (omega arith)
