-- `cmd_text::put_signed` meets its contract.
-- Assumes nothing.
use mathlib.Core.Path.{refl, ap}
use native.Mathlib.Omega.{arith}
use lib.ListN.{length}
use Rattle.cmd_text.specs.Text.{text, decimal}
use Rattle.cmd_text.proofs.Signed.{signed_below, signed_above}
use Rattle.cmd_text.proofs.Lines.{put_both}
use Rattle.cmd_text.proofs.put_signed.Goals as goal

pub put_text-a-requires : goal.put_text-a-requires
put_text-a-requires c = omega (arith, ap length (signed_below c.ranges.z c.if-z-lt0.true refl), c.requires)

pub put_decimal-requires : goal.put_decimal-requires
put_decimal-requires c = let whole = signed_below c.ranges.z c.if-z-lt0.true c.unsigned_abs.ensures.value in
    omega (arith, ap length whole, c.requires, c.put_text-a.ensures.place, c.put_text-a.auto.out)

pub returns-then-z-lt0 : goal.returns-then-z-lt0
returns-then-z-lt0 c = let whole = signed_below c.ranges.z c.if-z-lt0.true c.unsigned_abs.ensures.value in
    let room = rw whole at c.requires in
    let digits = decimal c.unsigned_abs.result in
    rw whole (put_both _ _ (text "-") digits room c.put_text-a.ensures c.put_decimal.ensures)

pub put_decimal-requires-2 : goal.put_decimal-requires-2
put_decimal-requires-2 c = omega (arith, ap length (signed_above c.ranges.z c.if-z-lt0.false c.unsigned_abs-2.ensures.value), c.requires)

pub returns : goal.returns
returns c = rw (signed_above c.ranges.z c.if-z-lt0.false c.unsigned_abs-2.ensures.value) c.put_decimal-2.ensures
