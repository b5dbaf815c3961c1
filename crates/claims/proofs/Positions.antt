-- 02, F-7: the positions of a call's entries, and its log from the middle.
-- Assumes nothing.
use mathlib.Core.Path.{◌≡◌, sym, ap, ◌∙◌}
use mathlib.Core.List.{List, [], ◌++◌}
use Prim.Native.Nat.{ℕ, ◌*◌, ◌<◌}
use native.Mathlib.Omega.{arith}
use lib.ListN.{length, get_or, take, drop}
use Rattle.counts.specs.Counts.{E}
use Rattle.network.specs.Wiring.{Wiring, Lawful}
use Rattle.network.specs.Network.{network}
use Rattle.network.specs.Log.{Entry, entry_words, entries, none_such, entry_at}
use Rattle.network.proofs.Shape.{entries-cut, entry_at_entries}
use Rattle.network.proofs.Run.{run-append}
use Rattle.network.proofs.Positions.{apply_position, inverse_position}
use Rattle.network.proofs.Paper.{paper_lawful}
use Rattle.steps.specs.State.{State}
use Rattle.steps.specs.Sequence.{set_entries}
use Rattle.steps.specs.Run.{subnetworks, run_set}
use Rattle.steps.proofs.Lengths.{length-set_entries}
use Rattle.steps.proofs.Running as running
use Rattle.steps.proofs.Positions.{set_position}
use Rattle.wirings.specs.declared.Topology.{Topology}
use Rattle.wirings.specs.declared.Topology.TheVariants.{Paper}
use Rattle.wirings.specs.Nets.{wiring_of}
use Rattle.wirings.proofs.Halves.{lawful}
use Rattle.orders_listed.specs.Ranks.{order_at}
use Rattle.claims.specs.Calls.{mixing, returning, Call, set, move, rank}
use Rattle.claims.specs.Calls.{described, wiring_of_call, Accepted, count_of, due, due_entries, written}
use Rattle.claims.specs.Positions.{OfNetwork, Positioned, FromTheMiddle}
use Rattle.claims.specs.Demands.{Logs}
use Rattle.claims.proofs.Demands.{due-counted, logs}

-- entries, and more behind them
then_set : {w : Wiring} → Lawful w → (n : ℕ) (es fs : List Entry) (x : State) → run_set w n (es ++ fs) x ≡ run_set w n fs (run_set w n es x)
unfolding run_set
then_set {w} L n es fs x = running.run-append w L (subnetworks w (network n) (λ i. i) 0) es fs x

goes_on : (c : Call) (es fs : List Entry) (x : (described c).Working)
    → (described c).act (es ++ fs) x ≡ (described c).act fs ((described c).act es x)
goes_on (set t order bits log) es fs x = then_set (lawful t) (length order) es fs x
goes_on (move t d n width blocks bits log) es fs x = run-append [] bits es fs x
goes_on (rank n r list bits log) es fs x = then_set paper_lawful (length (order_at n r)) es fs x

-- the positions of the entries due
set_positioned : (t : Topology) (n e : ℕ) → e < E n → OfNetwork t n (get_or (set_entries (wiring_of t) n) e none_such)
set_positioned t n e h = set_position (wiring_of t) (lawful t) n e (omega (arith, length-set_entries (wiring_of t) n))

positioned : (c : Call) (e : ℕ) → e < due c
    → Positioned (wiring_of_call c) (described c).kind (described c).places e (get_or (due_entries c) e none_such)
positioned (set t order bits log) e h = set_positioned t (length order) e h
positioned (move t mixing n width blocks bits log) e h = apply_position (wiring_of t) n e h
positioned (move t returning n width blocks bits log) e h = inverse_position (wiring_of t) n e h
positioned (rank n r list bits log) e h = set_positioned Paper n e h

pub from_the_middle : (c : Call) → Accepted c → FromTheMiddle c
from_the_middle c a =
    record {
      positions = λ e h. rw (reads e h) (positioned c e (omega (arith, L.count)));
      goes_on = on;
      ends = λ i. ap (described c).end (on i) ∙ L.replays;
    }
  where
    L : Logs c
    L = logs c a

    reads : (e : ℕ) → e < count_of c → entry_at (written c) e ≡ get_or (due_entries c) e none_such
    reads e h =
        entry_at_entries (written c) e (rw L.exact (omega (arith, h, L.count, due-counted c)))
        ∙ ap (λ (es : List Entry). get_or es e none_such) L.exact

    on : (i : ℕ)
        → (described c).act (entries (drop (entry_words * i) (written c)))
        ((described c).act (entries (take (entry_words * i) (written c))) (described c).begun)
        ≡ (described c).act (entries (written c)) (described c).begun
    on i =
        sym (goes_on c (entries (take (entry_words * i) (written c))) (entries (drop (entry_words * i) (written c))) (described c).begun)
        ∙ ap (λ (es : List Entry). (described c).act es (described c).begun) (entries-cut i (written c))
