-- 01's own rule of running a setter's log ('Running a log'): an entry does the step of its kind on 'the network that has its start and
-- size within the network of n places from 0', with that network's bits: 'input bits are the first k−1 of its bits in the setting, its
-- output bits the last m−k' (State.output_bit). It reads no fourth word (02, F-7), and it knows nothing of how entries are made.
-- Assumes nothing: these are definitions.
use Rattle.std.specs.Prelude.{cond, List, [], ◌∷◌, ℕ}
use Rattle.network.specs.Wiring.{Wiring}
use Rattle.network.specs.Network.{network}
use Rattle.network.specs.Log.{Entry}
use Rattle.steps.specs.State.{State, Subnetwork}
use Rattle.steps.specs.Steps.{step}
use Rattle.steps.specs.Run.{subnetworks, names}

-- an entry's step on the first network of a list that it names, as it lies there; the state as it is where it names none
unfoldable pub run_looked : Wiring → List Subnetwork → Entry → State → State
run_looked w [] e x = x
run_looked w (N ∷ Ns) e x = cond (names e N) (step w N e.kind x) (run_looked w Ns e x)

unfoldable pub run_all_looked : Wiring → List Subnetwork → List Entry → State → State
run_all_looked w Ns [] x = x
run_all_looked w Ns (e ∷ es) x = run_all_looked w Ns es (run_looked w Ns e x)

-- a log run within the network of n places from 0
unfoldable pub run_by_lookup : Wiring → ℕ → List Entry → State → State
run_by_lookup w n es x = run_all_looked w (subnetworks w (network n) (λ i. i) 0) es x
