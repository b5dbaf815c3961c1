-- N bytes where the digit is 1, none where it is 0.
-- Assumes nothing.
use Rattle.std.proofs.Common.{◌≡◌, ◌*◌, ◌/◌, ◌%◌, ap, ◌∙◌, arith}
use Rattle.exchange_words.specs.Bytes.{bytes_switched}
use Rattle.exchange_blocks.proofs.Parts.{none}
use Rattle.exchange_blocks.proofs.digit.Goals as goal

pub returns-then-rest-eq1 : goal.returns-then-rest-eq1
returns-then-rest-eq1 g c = let a = c.args in
    let n = g.row.N in
    let one : a.rest / n % 2 ≡ 1 = c.if-rest-eq1.true in
    let e : n ≡ n * (a.rest / n % 2) = rw one (omega arith) in
    (omega arith, c.exchange.ensures ∙ ap (λ n. bytes_switched a.a a.gap a.s n a.blocks.now) e)

pub returns : goal.returns
returns g c = let a = c.args in
    let n = g.row.N in
    let zero : a.rest / n % 2 ≡ 0 = omega arith in
    let e : 0 ≡ n * (a.rest / n % 2) = rw zero (omega arith) in
    (omega arith, none a.a a.gap a.s a.blocks.now ∙ ap (λ n. bytes_switched a.a a.gap a.s n a.blocks.now) e)
