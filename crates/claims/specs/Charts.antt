-- 02, F-1: 'the mixed blocks must give the same report as the blocks at home'.
-- Assumes nothing: these are definitions.
use Rattle.std.specs.Prelude.{◌≡◌, List, ℕ}
use Rattle.wirings.specs.declared.Topology.{Topology}
use Rattle.gauges.specs.Calls.{report_call}
use Rattle.claims.specs.Calls.{mix, return, outcome_of}

-- of any call to mix or return blocks of six bytes, in either wiring, accepted or refused: what it leaves gives the report of what
-- it was lent
pub record SameReport (t : Topology) (n : ℕ) (blocks bits log : List ℕ) (gauge : ℕ) : Type 0 where
  pub mixed : report_call n 6 (outcome_of (mix t n 6 blocks bits log)).buffer gauge ≡ report_call n 6 blocks gauge
  pub returned : report_call n 6 (outcome_of (return t n 6 blocks bits log)).buffer gauge ≡ report_call n 6 blocks gauge
