-- The sweep does what step 5 says.
-- Assumes nothing.
use mathlib.Core.Path.{ap}
use Rattle.control_walk.specs.declared.Walk.{Walk}
use Rattle.control_walk.proofs.Going.{went_one}
use Rattle.control_layers.proofs.Stepping.{step5_is}
use Rattle.control_layers.proofs.step5.Goals as goal

pub returns : goal.returns
returns c = let a = c.args in (
  went_one 5 a.net.start a.net.size a.first 0 a.w c.passed.result a.log.now _
      (ap (λ (r : Walk). r.e) c.passed.ensures)
      (ap (λ (r : Walk). r.b) c.passed.ensures) (rw c.number.ensures at c.write_entry.ensures),
  λ ms bs bit.
      step5_is a.net bit a.vals.now a.trails.now ms bs a.w c.passed.result 0 _ _
      c.split_values.ensures c.passed.ensures,
)
