-- One number gains and the other loses their masked difference.
-- Assumes nothing.
use Rattle.std.proofs.Common.{◌≡◌, ℕ, ◌+◌, ◌-◌, ◌*◌, ◌%◌, ◌≤◌, refl, arith}
use lib.Bits.{bit_and}
use Rattle.std.proofs.lemmas.Nat.{and_le_l}
use Rattle.exchange_words.proofs.Masked.{masked_word}
use Rattle.exchange_words.proofs.switched.Goals as goal

pub returns : goal.returns
returns c = let a = c.args in
    let d : ℕ = (a.y + (18446744073709551616 - a.x)) % 18446744073709551616 in
    let u : ℕ = bit_and d (a.s * 18446744073709551615) in
    let small : u ≤ d = and_le_l d _ in
    let e = c.from-mask.ensures in
    let back : ((a.y + (18446744073709551616 - u)) % 18446744073709551616 + u) % 18446744073709551616 ≡ a.y = omega arith in
    rw e (masked_word a.s a.x a.y d _ ((a.y + (18446744073709551616 - u)) % 18446744073709551616) c.requires (omega arith)
    (omega arith) (omega arith) (omega arith) refl back)
