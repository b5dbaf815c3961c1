-- Mixed blocks and returned ones give the same report as the blocks that were lent.
-- Assumes nothing.
use mathlib.Core.Path.{◌≡◌, ap, ◌∙◌}
use mathlib.Core.List.{List}
use Prim.Native.Nat.{ℕ, ◌*◌}
use lib.ListN.{length}
use Rattle.answers.specs.Questions.{Verdict, all_yes, no_at}
use Rattle.answers.specs.Outcomes.{Logged}
use Rattle.wirings.specs.declared.Topology.{Topology}
use Rattle.wirings.specs.Nets.{wiring_of}
use Rattle.wirings.proofs.Halves.{lawful}
use Rattle.apply_questions.proofs.Asked.{passes}
use Rattle.gauges.specs.Calls.{GaugeReport, report_call}
use Rattle.gauges.proofs.Exchanges.{report_moved, report_moved_back}
use Rattle.claims.specs.Calls.{Direction, mixing, returning, Call, move, moved_by, outcome_of}
use Rattle.claims.specs.Charts.{SameReport}
use Rattle.claims.proofs.Demands.{asked, leaves, refused_outcome}

module _ (t : Topology) (n : ℕ) (blocks bits log : List ℕ) (gauge : ℕ) where
  -- by the wiring alone
  moves : (d : Direction) → length blocks ≡ n * 6
      → report_call n 6 (moved_by (wiring_of t) d n 6 bits blocks) gauge ≡ report_call n 6 blocks gauge
  moves mixing full = report_moved gauge (lawful t) n bits blocks full
  moves returning full = report_moved_back gauge (lawful t) n bits blocks full

  same : (d : Direction) → report_call n 6 (outcome_of (move t d n 6 blocks bits log)).buffer gauge ≡ report_call n 6 blocks gauge
  same d = go (asked c) (λ i. asked c)
    where
      c : Call
      c = move t d n 6 blocks bits log

      report : List ℕ → GaugeReport
      report left = report_call n 6 left gauge

      go : (v : Verdict) → asked c ≡ v → report (outcome_of c).buffer ≡ report blocks
      go all_yes e = ap report (leaves c e).buffer ∙ moves d (passes n 6 (length blocks) bits (length log) e).whole
      go (no_at q p) e = ap (λ (o : Logged). report o.buffer) (refused_outcome c e)

  pub same_report : SameReport t n blocks bits log gauge
  same_report = record { mixed = same mixing; returned = same returning }
