-- Running a setter's log: each entry does the step of its kind on the one network that has its start and size (01, 'Running a log'),
-- with the bits from its own position on (02, F-7).
-- Assumes nothing: these are definitions.
use Rattle.std.specs.Prelude.{◌≡◌, Bool, true, false, cond, ◌&&◌, ℕ, ◌+◌, ◌-◌, eqb, length}
use mathlib.Core.List.{List, [], ◌∷◌, ◌++◌, Memᴰ}
use Rattle.counts.specs.Counts.{up}
use Rattle.network.specs.Wiring.{Wiring}
use Rattle.network.specs.Network.{Network, wires, split, network, switch_count}
use Rattle.network.specs.Log.{Entry}
use Rattle.steps.specs.State.{State, Subnetwork, start}
use Rattle.steps.specs.Steps.{step}

-- every network of two places or more within a network that lies at `place` and whose bits begin at `bit`
unfoldable pub subnetworks : Wiring → Network → (ℕ → ℕ) → ℕ → List Subnetwork
subnetworks w wires place bit = []
subnetworks w (split m top bottom) place bit =
    record { place = place; size = m; bit = bit }
    ∷ (subnetworks w top (λ i. place (w.enc (up m) (i, false))) (bit + (up m - 1))
    ++ subnetworks w bottom (λ i. place (w.enc (up m) (i, true))) (bit + ((up m - 1) + switch_count top)))

-- N is one of the networks Ns
abbrev pub OneOf : List Subnetwork → Subnetwork → Type 0
OneOf Ns N = Memᴰ N Ns

-- 'there is only one': no two of Ns have one start and one size
unfoldable pub Single : List Subnetwork → Type 0
Single Ns = (M N : Subnetwork) → OneOf Ns M → OneOf Ns N → M.place 0 ≡ N.place 0 → M.size ≡ N.size → M ≡ N

-- does an entry name this network?
abbrev pub names : Entry → Subnetwork → Bool
names e N = eqb (N.place 0) e.first && eqb N.size e.second

-- an entry of one of some networks: it has that network's start and size, and the position of its first bit
pub record Of (Ns : List Subnetwork) (e : Entry) : Type 0 where
  pub network : Subnetwork
  pub one : OneOf Ns network
  pub starts : e.first ≡ network.place 0
  pub many : e.second ≡ network.size
  pub begins : e.bit ≡ network.bit

-- a network with its bits where an entry has them
abbrev pub with_bits : Entry → Subnetwork → Subnetwork
with_bits e N = record { place = N.place; size = N.size; bit = e.bit }

-- an entry's step on the first network of a list that it names; the state as it is where it names none
unfoldable pub run_entry : Wiring → List Subnetwork → Entry → State → State
run_entry w [] e x = x
run_entry w (N ∷ Ns) e x = cond (names e N) (step w (with_bits e N) e.kind x) (run_entry w Ns e x)

unfoldable pub run_entries : Wiring → List Subnetwork → List Entry → State → State
run_entries w Ns [] x = x
run_entries w Ns (e ∷ es) x = run_entries w Ns es (run_entry w Ns e x)

-- a log run within the network of n places from 0
unfoldable pub run_set : Wiring → ℕ → List Entry → State → State
run_set w n es x = run_entries w (subnetworks w (network n) (λ i. i) 0) es x

-- the result of a log that set an order: the bits
abbrev pub setting_of : Wiring → List ℕ → List Entry → List ℕ
setting_of w order es = (run_set w (length order) es (start order)).bits
