-- The loop over the parts of 32 bytes. Its invariant: the first j parts of both blocks are switched.
-- Assumes nothing.
use Rattle.std.proofs.Common.{◌≡◌, ◌*◌, refl, ap, ◌∙◌, arith}
use Rattle.exchange_words.specs.Bytes.{bytes_switched}
use Rattle.exchange_blocks.proofs.Parts.{none, part_more}
use Rattle.exchange_blocks.proofs.exchange_whole.Goals as goal

pub loop-j-init : goal.loop-j-init
loop-j-init c = let a = c.args in
    (refl, none a.a a.gap a.s a.blocks.now)

pub loop-j-preserved : goal.loop-j-preserved
loop-j-preserved c = let a = c.args in (
  c.exchange32.auto.blocks ∙ c.loop-j.invariant.0,
  part_more 32 a.a a.gap a.s c.loop-j.j
      a.blocks.now c.loop-j.blocks c.exchange32.new.blocks c.loop-j.invariant.1 c.exchange32.ensures,
)

pub shape_of-blocks : goal.shape_of-blocks
shape_of-blocks c = c.loop-j.invariant.0

pub returns : goal.returns
returns c = let a = c.args in
    let all : 32 * c.loop-j.j ≡ a.whole = omega arith in
    c.loop-j.invariant.1 ∙ ap (λ n. bytes_switched a.a a.gap a.s n a.blocks.now) all
