-- The first rounds are done.
-- Assumes nothing.
use mathlib.Core.Path.{◌≡◌}
use Prim.Native.Nat.{ℕ, ◌-◌, ◌≤◌}
use lib.ListN.{length}
use mathlib.Core.List.{List}
use Rattle.counts.specs.Counts.{up}
use Rattle.steps.specs.Sequence.{rounds}
use Rattle.steps.specs.Fold.{rounds_of}
use Rattle.wirings.specs.Nets.{wiring_of}
use Rattle.control_rows.specs.Rows.{Gathered}
use Rattle.control_pairs.specs.Pairs.{marks_in, bits_in}
use Rattle.control_walk.specs.Walks.{state, lying, Went}
use Rattle.control_rings.specs.Turns.{Held}
use Rattle.control_network.proofs.rounds.Given as goal

abbrev pub invariant-loop-round : goal.invariant-loop-round
invariant-loop-round l =
    Went (rounds l._round l.net.start l.net.size l.initial.x.b) 0 l.initial.x l.x l.initial.log l.log
    × Held (up l.net.size) l.rings.pairs.now l.x × (l.rings.row.now ≡ l.initial.rings.row.now)
    × ((place : ℕ → ℕ) (vs ts ms bs : List ℕ) (bit : ℕ) → Gathered place l.net.size vs l.initial.rings.row.now → up l.net.size ≤ length ms
    → state vs ts (marks_in (up l.net.size) l.rings.pairs.now ms) (bits_in bit (up l.net.size - 1) l.rings.pairs.now bs) l.x
    ≡ rounds_of (wiring_of l.net.topology) (lying place l.net.size bit) l._round
    (state vs ts (marks_in (up l.net.size) l.initial.rings.pairs.now ms)
    (bits_in bit (up l.net.size - 1) l.initial.rings.pairs.now bs) l.initial.x))
