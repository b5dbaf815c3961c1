-- Blocks cut from bytes: a switch on the bytes of two blocks is a switch on the blocks.
-- Assumes nothing.
use mathlib.Core.Path.{◌≡◌, refl, sym, ap, ◌∙◌}
use mathlib.Core.Bool.{Bool, true, false}
use mathlib.Core.List.{List, [], ◌∷◌, ◌++◌, append_assoc}
use Prim.Native.Nat.{ℕ, zero, suc, ◌+◌, ◌-◌, ◌*◌, ◌≤◌, ◌<◌}
use native.Mathlib.Nat.{suc-mul, add-mul, one-mul, mul_assoc, mul-le-mul_right}
use native.Mathlib.Omega.{arith}
use native.Mathlib.Decide.{dec_lt}
use lib.Dec.{eqb}
use lib.ListN.{length, take, drop, get_or, length-append, length-drop, take-append-drop}
use lib.Seq.{take-suc, take_all, length-take-le, take_at, drop_at}
use borrow.Author.Tests.{eqb-true}
use Rattle.network.specs.Move.{switch}
use Rattle.network.specs.Blocks.{cut}
use Rattle.exchange_words.specs.Bytes.{bytes_switched}
use Rattle.exchange_blocks.proofs.Parts.{behind_bytes}
use Rattle.network.proofs.Blocks.{length_cut, cut-append, block-ends}
use Rattle.network.proofs.Kept.{swap_two, switch-left}
use Rattle.apply_layers.specs.Ran.{blocks_in, Lent, Pairs}

nil : {A : Type 0} (x : List A) → length x ≡ 0 → x ≡ []
nil [] e = refl
nil (c ∷ x) e = absurd (omega arith)

-- a block, and what is cut from the bytes behind it
pub cut-block : (w r : ℕ) (x b : List ℕ) → length x ≡ w → cut w (suc r) (x ++ b) ≡ x ∷ cut w r b
unfolding cut
cut-block w r x b e = rw (take_at x b w e, drop_at x b w e)

last : (x : List ℕ) (j : ℕ) → length x ≡ suc j → x ≡ take j x ++ (get_or x j 0 ∷ [])
last x j e = sym (take_all (suc j) x (omega arith)) ∙ take-suc x j 0 (omega arith)

-- the bytes of a block x at p and of a block y behind it
exchanged : (n : ℕ) (a x m y z : List ℕ) (p gap : ℕ) → length x ≡ n → length y ≡ n → length a ≡ p → n + length m ≡ gap
    → bytes_switched p gap 1 n (a ++ (x ++ (m ++ (y ++ z)))) ≡ a ++ (y ++ (m ++ (x ++ z)))
unfolding bytes_switched
exchanged zero a x m y z p gap ex ey ea eq = rw (nil x ex, nil y ey)
exchanged (suc j) a x m y z p gap ex ey ea eq =
    let xs : List ℕ = take j x in
    let ys : List ℕ = take j y in
    let c : ℕ = get_or x j 0 in
    let d : ℕ = get_or y j 0 in
    let nx : length xs ≡ j = length-take-le j x (omega arith) in
    let ny : length ys ≡ j = length-take-le j y (omega arith) in
    let hx : x ≡ xs ++ (c ∷ []) = last x j ex in
    let hy : y ≡ ys ++ (d ∷ []) = last y j ey in
    let opened : a ++ (x ++ (m ++ (y ++ z))) ≡ a ++ (xs ++ ((c ∷ m) ++ (ys ++ (d ∷ z)))) =
    ap (λ u. a ++ (u ++ (m ++ (y ++ z)))) hx ∙ ap (λ u. a ++ ((xs ++ (c ∷ [])) ++ (m ++ (u ++ z)))) hy ∙ simp append_assoc in
    let earlier : bytes_switched p gap 1 j (a ++ (xs ++ ((c ∷ m) ++ (ys ++ (d ∷ z))))) ≡ a ++ (ys ++ ((c ∷ m) ++ (xs ++ (d ∷ z)))) =
    exchanged j a xs (c ∷ m) ys (d ∷ z) p gap nx ny ea (omega arith) in
    let between : a ++ (ys ++ ((c ∷ m) ++ (xs ++ (d ∷ z)))) ≡ (a ++ ys) ++ (c ∷ ((m ++ xs) ++ (d ∷ z))) = simp append_assoc in
    let lower : p + j ≡ length (a ++ ys) = rw length-append (omega arith) in
    let upper : p + j + gap ≡ length ((a ++ ys) ++ (c ∷ (m ++ xs))) = simp length-append (omega arith) in
    let closed : (a ++ ys) ++ (d ∷ ((m ++ xs) ++ (c ∷ z))) ≡ a ++ (y ++ (m ++ (x ++ z))) =
    sym (ap (λ u. a ++ (y ++ (m ++ (u ++ z)))) hx ∙ ap (λ u. a ++ (u ++ (m ++ ((xs ++ (c ∷ [])) ++ z)))) hy ∙ simp append_assoc) in
    ap (λ u. switch 0 (p + j) (p + j + gap) 1 (bytes_switched p gap 1 j u)) opened
    ∙ ap (switch 0 (p + j) (p + j + gap) 1) (earlier ∙ between)
    ∙ ap (λ i. switch 0 (p + j) i 1 ((a ++ ys) ++ (c ∷ ((m ++ xs) ++ (d ∷ z))))) upper
    ∙ rw lower (swap_two 0 (a ++ ys) (m ++ xs) z c d)
    ∙ closed

kept : (a gap bit n : ℕ) (bytes : List ℕ) → eqb bit 1 ≡ false → bytes_switched a gap bit n bytes ≡ bytes
unfolding bytes_switched
kept a gap bit zero bytes h = refl
kept a gap bit (suc j) bytes h = switch-left 0 (a + j) (a + j + gap) bit (bytes_switched a gap bit j bytes) h ∙ kept a gap bit j bytes h

-- the blocks before place p, at p, between, at q and after
parts : (w p g r : ℕ) (a x m y z : List ℕ) → length a ≡ p * w → length x ≡ w → length m ≡ g * w → length y ≡ w
    → cut w (p + suc (g + suc r)) (a ++ (x ++ (m ++ (y ++ z)))) ≡ cut w p a ++ (x ∷ (cut w g m ++ (y ∷ cut w r z)))
parts w p g r a x m y z ea ex em ey =
    rw (
      cut-append w p (suc (g + suc r)) a (x ++ (m ++ (y ++ z))) ea,
      cut-block w (g + suc r) x (m ++ (y ++ z)) ex,
      cut-append w g (suc r) m (y ++ z) em,
      cut-block w r y z ey,
    )

-- a switch on whole blocks, where the bytes are so many parts
parted : (w p g r : ℕ) (a x m y z : List ℕ) → length a ≡ p * w → length x ≡ w → length m ≡ g * w → length y ≡ w
    → cut w (p + suc (g + suc r)) (bytes_switched (p * w) (suc g * w) 1 w (a ++ (x ++ (m ++ (y ++ z)))))
    ≡ switch [] p (p + suc g) 1 (cut w (p + suc (g + suc r)) (a ++ (x ++ (m ++ (y ++ z)))))
parted w p g r a x m y z ea ex em ey =
    let gap : w + length m ≡ suc g * w = omega (arith, suc-mul g w) in
    let e = cut w p a in
    let n = cut w g m in
    let lower : p ≡ length e = sym (length_cut w p a) in
    let upper : p + suc g ≡ length (e ++ (x ∷ n)) = sym (rw (length-append, length_cut, length_cut) (omega arith)) in
    ap (cut w (p + suc (g + suc r))) (exchanged w a x m y z (p * w) (suc g * w) ex ey ea gap)
    ∙ parts w p g r a y m x z ea ey em ex
    ∙ sym (ap (switch [] p (p + suc g) 1) (parts w p g r a x m y z ea ex em ey)
    ∙ ap (λ i. switch [] p i 1 (e ++ (x ∷ (n ++ (y ∷ cut w r z))))) upper
    ∙ ap (λ i. switch [] i (length (e ++ (x ∷ n))) 1 (e ++ (x ∷ (n ++ (y ∷ cut w r z))))) lower ∙ swap_two [] e n (cut w r z) x y)

-- a switch on the bytes of the blocks at p and a gap of k places further is a switch on the blocks
pub cut_switched : (w m k p bit : ℕ) (bytes : List ℕ) → 1 ≤ k → p + k < m → m * w ≡ length bytes
    → cut w m (bytes_switched (p * w) (k * w) bit w bytes) ≡ switch [] p (p + k) bit (cut w m bytes)
cut_switched w m k p bit bytes h l e = go (eqb bit 1) refl
  where
    g : ℕ
    g = k - 1

    r : ℕ
    r = m - suc (p + k)

    a : List ℕ
    a = take (p * w) bytes

    b : List ℕ
    b = drop (p * w) bytes

    go : (t : Bool) → eqb bit 1 ≡ t → cut w m (bytes_switched (p * w) (k * w) bit w bytes) ≡ switch [] p (p + k) bit (cut w m bytes)
    go false t = ap (cut w m) (kept (p * w) (k * w) bit w bytes t) ∙ sym (switch-left [] p (p + k) bit (cut w m bytes) t)
    go true t =
        let one : bit ≡ 1 = eqb-true bit 1 t in
        let before : suc g ≡ k = omega arith in
        let all : p + suc (g + suc r) ≡ m = omega arith in
        let long : p * w + (w + (g * w + (w + r * w))) ≡ length bytes =
        omega (arith, e, ap (λ n. n * w) all, add-mul p (suc (g + suc r)) w, suc-mul (g + suc r) w, add-mul g (suc r) w, suc-mul r w) in
        let x = take w b in
        let b1 = drop w b in
        let n = take (g * w) b1 in
        let b2 = drop (g * w) b1 in
        let y = take w b2 in
        let z = drop w b2 in
        let lb : length b ≡ w + (g * w + (w + r * w)) = rw length-drop (omega arith) in
        let lb1 : length b1 ≡ g * w + (w + r * w) = rw length-drop (omega arith) in
        let lb2 : length b2 ≡ w + r * w = rw length-drop (omega arith) in
        let whole : bytes ≡ a ++ (x ++ (n ++ (y ++ z))) =
        sym (rw (take-append-drop w b2, take-append-drop (g * w) b1, take-append-drop w b, take-append-drop (p * w) bytes)) in
        rw (one, ← before, ← all, whole)
        (parted w p g r a x n y z (length-take-le (p * w) bytes (omega arith)) (length-take-le w b (omega arith))
        (length-take-le (g * w) b1 (omega arith)) (length-take-le w b2 (omega arith)))

-- ---- where the blocks of a switch of a layer lie: of the place p, from byte a on, and of the one a gap further

pub record Within (w o p a gap long : ℕ) : Type 0 where
  pub place : o + (p + gap) < 1024
  pub apart : w ≤ gap * w
  pub ends : a + gap * w + w ≤ long

module _ {w o c e step gap : ℕ} {b bits l : List ℕ} (lent : Lent w o c e b bits l) (pairs : Pairs (blocks_in w b) step gap c) where
  pub within : (i : ℕ) → i < c → Within w o (i * step) (i * (step * w)) gap (length b)
  within i h =
      let one : 1 * w ≤ gap * w = mul-le-mul_right w pairs.apart in
      let last = block-ends w (blocks_in w b) (i * step + gap) (pairs.lies i h) in
      record {
        place = omega (arith, pairs.lies i h, lent.places);
        apart = omega (arith, one-mul w);
        ends = omega (arith, last, lent.whole, add-mul (i * step) gap w, mul_assoc i step w);
      }

  -- a step past the last of them
  pub past_near : c * step ≤ 2048
  past_near = go (dec_lt 0 c)
    where
      go : Dec (0 < c) → c * step ≤ 2048
      go (yes h) =
          let last : c ≡ suc (c - 1) = omega arith in
          let more : c * step ≡ (c - 1) * step + step = ap (λ n. n * step) last ∙ suc-mul (c - 1) step in
          omega (arith, more, pairs.lies (c - 1) (omega arith), pairs.pace, lent.places)
      go (no h) = let none : c ≡ 0 = omega arith in rw none (omega arith)

  pub few_fit : (n : ℕ) → n ≤ blocks_in w b → n * w ≤ length b
  few_fit n h = let x : n * w ≤ blocks_in w b * w = mul-le-mul_right w h in omega (arith, lent.whole)

-- the parts of a block, one behind the other, are the block
pub both_parts : (w whole rest a gap s : ℕ) (b1 b2 b3 : List ℕ) → w ≡ whole + rest → b2 ≡ bytes_switched a gap s whole b1
    → b3 ≡ bytes_switched (a + whole) gap s rest b2 → b3 ≡ bytes_switched a gap s w b1
both_parts w whole rest a gap s b1 b2 b3 e f g =
    behind_bytes a gap s whole rest b1 b2 b3 (a + whole) refl f g ∙ ap (λ n. bytes_switched a gap s n b1) (sym e)
