-- `cmd_text::put_bits` meets its contract.
-- Assumes nothing.
use mathlib.Core.Path.{sym, ◌∙◌}
use native.Mathlib.Omega.{arith}
use Rattle.cmd_text.proofs.Lines.{lay_starts, lay_more, lay_ends, empty_is, empty_not, length-characters, character-at, bits_none, bits_some, bits_long}
use Rattle.cmd_text.proofs.put_bits.Goals as goal

pub put_text-requires : goal.put_text-requires
put_text-requires c = rw (bits_none _ (empty_is c.is_empty.ensures c.if-is_empty.true)) at c.requires

pub returns-then-is_empty : goal.returns-then-is_empty
returns-then-is_empty c = rw (bits_none _ (empty_is c.is_empty.ensures c.if-is_empty.true)) c.put_text.ensures

pub loop-i-init : goal.loop-i-init
loop-i-init c = lay_starts _ _ _

pub bounds-out-at : goal.bounds-out-at
bounds-out-at c = omega (arith, bits_long c.args.bits.now (empty_not c.is_empty.ensures c.if-is_empty.false), c.loop-i-test.true, c.requires, c.loop-i.invariant.same)

pub loop-i-preserved : goal.loop-i-preserved
loop-i-preserved c =
    lay_more _ _ _ _ _ c.loop-i.invariant _ (omega (arith, length-characters c.args.bits.now, c.loop-i-test.true)) (omega (arith, bits_long c.args.bits.now (empty_not c.is_empty.ensures c.if-is_empty.false), length-characters c.args.bits.now, c.requires)) (c.bit_character.ensures ∙ sym (character-at _ _ c.loop-i-test.true))

pub returns : goal.returns
returns c =
    rw (bits_some _ (empty_not c.is_empty.ensures c.if-is_empty.false)) (lay_ends _ _ _ _ _ c.loop-i.invariant (omega (arith, length-characters c.args.bits.now, c.loop-i-test.false)) (omega (arith, length-characters c.args.bits.now)))
