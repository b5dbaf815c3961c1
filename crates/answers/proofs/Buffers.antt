-- Laws of the overlay.
-- Assumes nothing.
use mathlib.Core.Path.{◌≡◌, refl, sym, ap, ◌∙◌}
use mathlib.Core.List.{List, [], ◌∷◌, ◌++◌, append_assoc, append-nil}
use Prim.Native.Nat.{ℕ, ◌+◌, ◌≤◌, ◌<◌}
use native.Mathlib.Nat.{add-zero, add_assoc}
use native.Mathlib.Numerals.{add-one}
use native.Mathlib.Omega.{arith}
use lib.ListN.{length, take, drop, set, length-append, length-take, length-drop, take-append-drop, drop_of_length-le}
use lib.Seq.{set_split, length-take-le, take_at, drop_at, drop-drop, drop-append-add}
use Rattle.answers.specs.Buffers.{overlay}

-- at the front: the words, and what stood beyond
pub overlay-front : (b words : List ℕ) → overlay b 0 words ≡ words ++ drop (length words) b
unfolding overlay
overlay-front b words = let z : 0 + length words ≡ length words = omega arith in rw z

pub overlay_none : (b : List ℕ) (at : ℕ) → overlay b at [] ≡ b
unfolding overlay
overlay_none b at = rw add-zero (take-append-drop at b)

-- the whole buffer
pub overlay_whole : (b words : List ℕ) → length words ≡ length b → overlay b 0 words ≡ words
overlay_whole b words e = overlay-front b words ∙ ap (λ l. words ++ l) (drop_of_length-le b {i = length words} (omega arith)) ∙ append-nil words

pub overlay-length : (b : List ℕ) (at : ℕ) (words : List ℕ) → at + length words ≤ length b → length (overlay b at words) ≡ length b
unfolding overlay
overlay-length b at words h = simp (length-append, length-take, length-drop) (omega arith)

-- one item
pub overlay-one : (b : List ℕ) (at x : ℕ) → at < length b → overlay b at (x ∷ []) ≡ set b at x
unfolding overlay
overlay-one b at x h = rw (add-one, set_split b at x h)

-- two parts, the second right behind the first
pub overlay_then : (b : List ℕ) (at : ℕ) (xs ys : List ℕ) → at + length xs ≤ length b
    → overlay (overlay b at xs) (at + length xs) ys ≡ overlay b at (xs ++ ys)
unfolding overlay
overlay_then b at xs ys h =
    let head : List ℕ = take at b ++ xs in
    let long : length head ≡ at + length xs = length-append (take at b) xs ∙ ap (λ n. n + length xs) (length-take-le at b (omega arith)) in
    let old : List ℕ = drop (at + length xs) b in
    let whole : take at b ++ (xs ++ old) ≡ head ++ old = sym (append_assoc (take at b) xs old) in
    let front : take (at + length xs) (take at b ++ (xs ++ old)) ≡ head = ap (take (at + length xs)) whole ∙ take_at head old (at + length xs) long in
    let back : drop (at + length xs + length ys) (take at b ++ (xs ++ old)) ≡ drop (at + length (xs ++ ys)) b =
    ap (drop (at + length xs + length ys)) whole
    ∙ ap (λ n. drop (n + length ys) (head ++ old)) (sym long)
    ∙ drop-append-add head old (length ys)
    ∙ drop-drop (length ys) (at + length xs) b
    ∙ ap (λ n. drop n b) (add_assoc at (length xs) (length ys) ∙ ap (λ n. at + n) (sym (length-append xs ys)))
    in
    rw (front, back) (append_assoc (take at b) xs (ys ++ drop (at + length (xs ++ ys)) b) ∙ ap (λ l. take at b ++ l) (sym (append_assoc xs ys (drop (at + length (xs ++ ys)) b))))

-- one item more behind a part
pub overlay_more : (b : List ℕ) (at : ℕ) (xs : List ℕ) (x : ℕ) → at + length xs < length b
    → set (overlay b at xs) (at + length xs) x ≡ overlay b at (xs ++ (x ∷ []))
overlay_more b at xs x h =
    sym (overlay-one (overlay b at xs) (at + length xs) x (omega (arith, overlay-length b at xs (omega arith))))
    ∙ overlay_then b at xs (x ∷ []) (omega arith)

-- what stands in the part, and that the rest is kept
pub overlay_read : (b : List ℕ) (words : List ℕ) → take (length words) (overlay b 0 words) ≡ words
overlay_read b words = rw (overlay-front b words) (take_at words (drop (length words) b) (length words) refl)

pub overlay_taken : (b : List ℕ) {out words : List ℕ} {n : ℕ} → out ≡ overlay b 0 words → length words ≡ n → take n out ≡ words
overlay_taken b {words = words} e l = rw (e, ← l) (overlay_read b words)

pub overlay_beyond : (b : List ℕ) (words : List ℕ) → drop (length words) (overlay b 0 words) ≡ drop (length words) b
overlay_beyond b words = rw (overlay-front b words) (drop_at words (drop (length words) b) (length words) refl)
