-- The steps of a network in sequence as one function on states, by recursion on the network and without a log.
-- It serves the inner contracts of the code that sets; running the entries is proved to be this fold.
-- Assumes nothing: these are definitions.
use Rattle.std.specs.Prelude.{true, false, cond, ℕ, zero, suc, ◌+◌, ◌-◌, ltb}
use Rattle.counts.specs.Counts.{up}
use Rattle.network.specs.Wiring.{Wiring}
use Rattle.network.specs.Network.{Network, wires, split, switch_count}
use Rattle.steps.specs.State.{State, Subnetwork}
use Rattle.steps.specs.Steps.{step1, step2, step3, step4, step5, step6}

-- steps 1, 2, 3, repeated
unfoldable pub rounds_of : Wiring → Subnetwork → ℕ → State → State
rounds_of w N zero x = x
rounds_of w N (suc i) x = step3 w N (step2 w N (step1 w N (rounds_of w N i x)))

-- what comes before step 5: nothing for two places; above, the rounds and step 4
unfoldable pub input_steps : Wiring → Subnetwork → State → State
input_steps w N x = cond (ltb 2 N.size) (step4 w N (rounds_of w N (up N.size) x)) x

-- the whole network at `place`, whose bits begin at `bit`
unfoldable pub set_net : Wiring → Network → (ℕ → ℕ) → ℕ → State → State
set_net w wires place bit x = x
set_net w (split m top bottom) place bit x =
    let k = up m in
    let N : Subnetwork = record { place = place; size = m; bit = bit } in
    let entered = step5 w N (input_steps w N x) in
    let above = set_net w top (λ i. place (w.enc k (i, false))) (bit + (k - 1)) entered in
    let below = set_net w bottom (λ i. place (w.enc k (i, true))) (bit + ((k - 1) + switch_count top)) above in
    step6 w N below
