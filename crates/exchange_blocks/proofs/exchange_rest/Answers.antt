-- The digits of the number of bytes, one behind the other.
-- Assumes nothing.
use Rattle.std.proofs.Common.{◌≡◌, ◌+◌, ◌*◌, ◌/◌, ◌%◌, length, ap, ◌∙◌, arith}
use Rattle.exchange_words.specs.Bytes.{bytes_switched}
use Rattle.exchange_blocks.proofs.Parts.{after, four_digit, two_digit, one-digit, behind, behind_bytes}
use Rattle.exchange_blocks.proofs.exchange_rest.Goals as goal

pub digit-c-requires : goal.digit-c-requires
digit-c-requires c = let a = c.args in
    let r = c.eights-b.ensures.0 in
    let b = behind (8 * (a.rest / 8)) (4 * (a.rest / 4 % 2)) (a.rest % 4) a.rest a.gap a.a c.eights-b.result
    (length a.blocks.now) (length c.eights-b.new.blocks) (four_digit a.rest) c.requires.1 c.requires.2 r c.eights-b.auto.blocks in
    (c.requires.0, b.0, b.1, omega arith, omega arith)

pub digit-d-requires : goal.digit-d-requires
digit-d-requires c = let a = c.args in
    let r = after a.a (8 * (a.rest / 8)) (4 * (a.rest / 4 % 2)) c.eights-b.result c.digit-c.result
    c.eights-b.ensures.0 c.digit-c.ensures.0 in
    let b = behind (8 * (a.rest / 8) + 4 * (a.rest / 4 % 2)) (2 * (a.rest / 2 % 2)) (a.rest % 2) a.rest a.gap a.a
    c.digit-c.result (length a.blocks.now) (length c.digit-c.new.blocks) (two_digit a.rest) c.requires.1 c.requires.2 r
    (c.digit-c.auto.blocks ∙ c.eights-b.auto.blocks) in
    (c.requires.0, b.0, b.1, omega arith, omega arith)

pub digit-requires : goal.digit-requires
digit-requires c = let a = c.args in
    let q = after a.a (8 * (a.rest / 8)) (4 * (a.rest / 4 % 2)) c.eights-b.result c.digit-c.result
    c.eights-b.ensures.0 c.digit-c.ensures.0 in
    let r = after a.a (8 * (a.rest / 8) + 4 * (a.rest / 4 % 2)) (2 * (a.rest / 2 % 2)) c.digit-c.result c.digit-d.result
    q c.digit-d.ensures.0 in
    let b = behind (8 * (a.rest / 8) + 4 * (a.rest / 4 % 2) + 2 * (a.rest / 2 % 2)) (1 * (a.rest / 1 % 2)) 0 a.rest a.gap a.a
    c.digit-d.result (length a.blocks.now) (length c.digit-d.new.blocks) (one-digit a.rest) c.requires.1 c.requires.2 r
    (c.digit-d.auto.blocks ∙ c.digit-c.auto.blocks ∙ c.eights-b.auto.blocks) in
    (c.requires.0, b.0, b.1, omega arith, omega arith)

pub returns : goal.returns
returns c = let a = c.args in
    let n8 = 8 * (a.rest / 8) in
    let n4 = 4 * (a.rest / 4 % 2) in
    let n2 = 2 * (a.rest / 2 % 2) in
    let all : n8 + n4 + n2 + 1 * (a.rest / 1 % 2) ≡ a.rest = omega (arith, one-digit a.rest) in
    let q = after a.a n8 n4 c.eights-b.result c.digit-c.result c.eights-b.ensures.0 c.digit-c.ensures.0 in
    let r = after a.a (n8 + n4) n2 c.digit-c.result c.digit-d.result q c.digit-d.ensures.0 in
    let b2 = behind_bytes a.a a.gap a.s n8 n4 a.blocks.now c.eights-b.new.blocks c.digit-c.new.blocks
    c.eights-b.result c.eights-b.ensures.0 c.eights-b.ensures.1 c.digit-c.ensures.1 in
    let b3 = behind_bytes a.a a.gap a.s (n8 + n4) n2 a.blocks.now c.digit-c.new.blocks c.digit-d.new.blocks
    c.digit-c.result q b2 c.digit-d.ensures.1 in
    behind_bytes a.a a.gap a.s (n8 + n4 + n2) (1 * (a.rest / 1 % 2)) a.blocks.now c.digit-d.new.blocks c.digit.new.blocks
    c.digit-d.result r b3 c.digit.ensures.1
    ∙ ap (λ n. bytes_switched a.a a.gap a.s n a.blocks.now) all
