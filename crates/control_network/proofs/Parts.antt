-- What a call within `set_network` promised is what the record of a part that was done says: of the steps before the halves,
-- and of a half, said of the places that the definition gives it.
-- Assumes nothing.
use mathlib.Core.Path.{◌≡◌}
use mathlib.Core.Bool.{Bool, cond}
use mathlib.Core.List.{List}
use Prim.Native.Nat.{ℕ, ◌≤◌}
use lib.ListN.{length}
use Rattle.counts.specs.Counts.{up, W}
use Rattle.network.specs.Network.{network, down}
use Rattle.network.specs.Log.{Entry}
use Rattle.steps.specs.State.{State}
use Rattle.steps.specs.Sequence.{entries_of}
use Rattle.steps.specs.Fold.{set_net}
use Rattle.wirings.specs.declared.Net.{Net}
use Rattle.wirings.specs.Nets.{wiring_of, place_of, side_of, IsHalf}
use Rattle.wirings.proofs.Halves.{of_sides}
use Rattle.control_walk.specs.declared.Walk.{Walk}
use Rattle.control_walk.specs.Walks.{Went}
use Rattle.control_network.specs.Inner.{unmarked}
use Rattle.control_network.proofs.Whole.{Done, Set}

pub done : {es : List Entry} {n k : ℕ} {F : State → State} {w r : Walk} {vs ts bs l vs' ts' bs' l' : List ℕ}
    → (Went es n w r l l' × ((j : ℕ) → k ≤ j → unmarked j vs' ts' bs' r ≡ F (unmarked j vs ts bs w)))
    → length vs' ≡ length vs → length ts' ≡ length ts → length bs' ≡ length bs → length l' ≡ length l
    → Done es n k F w r vs ts bs l vs' ts' bs' l'
done e values trails bits log = record {
  went = e.0;
  is = e.1;
  values_kept = values;
  trails_kept = trails;
  bits_kept = bits;
  log_kept = log;
}

pub half_done : {net half : Net} {t : Bool} {w r : Walk} {vs ts bs l vs' ts' bs' l' : List ℕ}
    → IsHalf net t half
    → (Went (entries_of (wiring_of half.topology) (network half.size) (place_of half) w.b) (W half.size) w r l l'
    × ((j : ℕ) → up half.size ≤ j → unmarked j vs' ts' bs' r
    ≡ set_net (wiring_of half.topology) (network half.size) (place_of half) w.b (unmarked j vs ts bs w)))
    → length vs' ≡ length vs → length ts' ≡ length ts → length bs' ≡ length bs → length l' ≡ length l
    → Set net.topology (cond t (down net.size) (up net.size)) (λ i. place_of net (side_of net (i, t))) w r vs ts bs l
    vs' ts' bs' l'
half_done {w = w} {r = r} {vs = vs} {ts = ts} {bs = bs} {l = l} {vs' = vs'} {ts' = ts'} {bs' = bs'} {l' = l'}
    H e values trails bits log =
    of_sides H (λ t n place. Set t n place w r vs ts bs l vs' ts' bs' l') (done e values trails bits log)
