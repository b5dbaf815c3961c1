-- Below 32768 a number is the same as a signed one.
-- Assumes nothing.
use mir.Syntax.{w16}
use mir.ValLaws.{to_z_pos}
use mathlib.Core.Path.{◌∙◌}
use lib.Dec.{ltb}
use Rattle.select.proofs.Numbers.{digit_byte}
use Rattle.select.proofs.less.Goals as goal

pub returns : goal.returns
returns c =
    let a = c.args.a in
    let b = c.args.b in
    c.from.ensures ∙ rw (to_z_pos w16 a c.requires.0, to_z_pos w16 b c.requires.1) (digit_byte (ltb a b))
