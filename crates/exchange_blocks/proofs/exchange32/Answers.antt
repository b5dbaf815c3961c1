-- The loop over the bytes of two parts. Its invariant: the first j of both arrays are switched.
-- Assumes nothing.
use Rattle.std.proofs.Common.{ℕ, ◌+◌, ◌-◌, ◌*◌, ◌%◌, ◌<◌, ◌≤◌, List, get_or, length, refl, ap, ◌∙◌, arith}
use lib.Bits.{bit_and}
use Rattle.std.proofs.lemmas.Nat.{and_le_l}
use Rattle.exchange_words.specs.Words.{written}
use Rattle.exchange_words.proofs.Masked.{masked_byte}
use Rattle.exchange_words.proofs.Written.{Picked, parts_switched, length-written, part-filled, taken}
use Rattle.exchange_blocks.proofs.Parts.{half_none, half_more, taken-picked}
use Rattle.exchange_blocks.proofs.exchange32.Goals as goal

pub loop-j-init : goal.loop-j-init
loop-j-init c = half_none c.args.s c.copy_from_slice-2.new.self c.copy_from_slice.new.self

pub loop-j-preserved : goal.loop-j-preserved
loop-j-preserved c = let s = c.args.s in
    let h = c.loop-j.invariant in
    let j = c.loop-j.j in
    let x = get_or c.loop-j.x j 0 in
    let y = get_or c.loop-j.y j 0 in
    let d : ℕ = (y + (256 - x)) % 256 in
    let u : ℕ = bit_and d (s * 255) in
    let x' : ℕ = (x + u) % 256 in
    let y' : ℕ = (y + (256 - u)) % 256 in
    let small : u ≤ d = and_le_l d _ in
    let low : x < 256 = omega arith in
    let high : y < 256 = omega arith in
    let m = masked_byte s x y d x' y' c.requires.0 low (omega arith) (omega arith) (omega arith) refl (omega arith) in
    let p : Picked s x y x' y' = record { lower = m.0; upper = m.1 } in
    half_more s j c.copy_from_slice-2.new.self c.copy_from_slice.new.self c.loop-j.x c.loop-j.y x' y'
    (omega (arith, c.copy_from_slice-2.ensures.len)) (omega (arith, c.copy_from_slice.ensures.len)) h
    (taken-picked s (h.left_x j (omega arith)) (h.left_y j (omega arith)) p)

pub returns : goal.returns
returns c = let a = c.args in
    let h = c.loop-j.invariant in
    let x = taken 32 _ a.a a.blocks.now c.copy_from_slice-2.new.self (omega arith) (omega arith) c.copy_from_slice-2.ensures.after in
    let y = taken 32 _ (a.a + a.gap) a.blocks.now c.copy_from_slice.new.self (omega arith) (omega arith) c.copy_from_slice.ensures.after in
    let f : ℕ → ℕ = λ i. get_or c.loop-j.x i 0 in
    let g : ℕ → ℕ = λ i. get_or c.loop-j.y i 0 in
    let upper = part-filled 32 (a.a + a.gap) _ g a.blocks.now c.copy_from_slice-3.new.self (omega arith) (omega arith)
    (c.copy_from_slice-3.ensures.len ∙ omega arith) (λ j m. ap (λ (t : List ℕ). get_or t j 0) c.copy_from_slice-3.ensures.after) in
    part-filled 32 a.a _ f _ c.copy_from_slice-4.new.self
    (omega (arith, ap length upper, length-written 32 (a.a + a.gap) g a.blocks.now)) (omega arith)
    (c.copy_from_slice-4.ensures.len ∙ omega arith) (λ j m. ap (λ (t : List ℕ). get_or t j 0) c.copy_from_slice-4.ensures.after)
    ∙ ap (written 32 a.a f) upper
    ∙ parts_switched 32 a.a a.gap a.s a.blocks.now f g c.requires.0 c.requires.1
    (λ i m. taken-picked a.s (x.here i m) (y.here i m) (h.done i (omega arith)))
