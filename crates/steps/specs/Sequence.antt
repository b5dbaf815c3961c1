-- The sequence of the steps for a network, as log entries: kind, start, size (01, 'Steps of the setter, and the log'),
-- and the position of the network's first bit (02, F-7).
-- Assumes nothing: these are definitions.
use Rattle.std.specs.Prelude.{true, false, cond, List, [], ◌∷◌, ◌++◌, ℕ, zero, suc, ◌+◌, ◌-◌, ltb}
use Rattle.counts.specs.Counts.{up}
use Rattle.network.specs.Wiring.{Wiring}
use Rattle.network.specs.Network.{Network, wires, split, network, switch_count}
use Rattle.network.specs.Log.{Entry, entry}

-- steps 1, 2, 3, repeated, of the network with start o, size m and first bit b
unfoldable pub rounds : ℕ → ℕ → ℕ → ℕ → List Entry
rounds zero o m b = []
rounds (suc i) o m b = rounds i o m b ++ (entry 1 o m b ∷ entry 2 o m b ∷ entry 3 o m b ∷ [])

-- what comes before step 5: nothing for two places; above, the rounds and step 4
unfoldable pub input_entries : ℕ → ℕ → ℕ → List Entry
input_entries o m b = cond (ltb 2 m) (rounds (up m) o m b ++ (entry 4 o m b ∷ [])) []

-- a network's entries; its start is its first place, and its bits begin at b
unfoldable pub entries_of : Wiring → Network → (ℕ → ℕ) → ℕ → List Entry
entries_of w wires place b = []
entries_of w (split m top bottom) place b =
    input_entries (place 0) m b
    ++ (entry 5 (place 0) m b
    ∷ (entries_of w top (λ i. place (w.enc (up m) (i, false))) (b + (up m - 1))
    ++ (entries_of w bottom (λ i. place (w.enc (up m) (i, true))) (b + ((up m - 1) + switch_count top))
    ++ (entry 6 (place 0) m b ∷ []))))

-- the entries of setting an order of n places
unfoldable pub set_entries : Wiring → ℕ → List Entry
set_entries w n = entries_of w (network n) (λ i. i) 0
