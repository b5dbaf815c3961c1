-- `numbers::read_number` meets its contract.
-- Assumes nothing.
use mathlib.Core.Path.{ap, ◌∙◌}
use Rattle.std.specs.Prelude.{Err}
use Rattle.numbers.specs.Reading.{meaning}
use Rattle.numbers.proofs.Numbers.{none, one, cut, needless, third, two}
use Rattle.numbers.proofs.read_number.Goals as goal
use Rattle.numbers.proofs.read_number.Goals.{then-high-eq0-via-then-high-eq0, then-high-eq0-via-else-high-eq0+then-high-ge128}

pub returns-then-input-at : goal.returns-then-input-at
returns-then-input-at c = ap (λ r. meaning (Err r)) c.at-no_byte.ensures ∙ none _ _ c.if-input-at.true

pub returns-then-low-lt128 : goal.returns-then-low-lt128
returns-then-low-lt128 c = one _ _ c.if-input-at.false c.from-low.ensures c.if-low-lt128.true

pub returns-then-input-second : goal.returns-then-input-second
returns-then-input-second c =
    ap (λ r. meaning (Err r)) c.at-no_byte.ensures
    ∙ cut _ _ c.if-input-at.false c.from-low.ensures c.if-low-lt128.false c.if-input-second.true

pub returns-then-high-eq0 : goal.returns-then-high-eq0
returns-then-high-eq0 c =
    ap (λ r. meaning (Err r)) c.at-bad_form.ensures
    ∙ elim c.then-high-eq0.branch [
      | then-high-eq0-via-then-high-eq0 w ↦ needless _ _ c.if-input-at.false c.from-low.ensures c.if-low-lt128.false c.if-input-second.false c.from-high.ensures w.if-high-eq0.true
      | then-high-eq0-via-else-high-eq0+then-high-ge128 w ↦ third _ _ c.if-input-at.false c.from-low.ensures c.if-low-lt128.false c.if-input-second.false c.from-high.ensures w.if-high-ge128.true
    ]

pub returns : goal.returns
returns c =
    two _ _ c.if-input-at.false c.from-low.ensures c.if-low-lt128.false c.if-input-second.false c.from-high.ensures c.if-high-eq0.false c.if-high-ge128.false
