-- Blocks: a list cut from the lent bytes, moved by the network, and put together again.
-- Assumes nothing: these are definitions.
use Rattle.std.specs.Prelude.{List, [], ◌∷◌, ◌++◌, ℕ, zero, suc, take, drop}
use Rattle.permutation.specs.Permutations.{identity}
use Rattle.network.specs.Wiring.{Wiring}
use Rattle.network.specs.Network.{network}
use Rattle.network.specs.Move.{forward, backward}

-- n blocks of `width` bytes each
unfoldable pub cut : ℕ → ℕ → List ℕ → List (List ℕ)
cut width zero bytes = []
cut width (suc n) bytes = take width bytes ∷ cut width n (drop width bytes)

unfoldable pub bytes_of : List (List ℕ) → List ℕ
bytes_of [] = []
bytes_of (b ∷ bs) = b ++ bytes_of bs

-- the bytes of n blocks after the wiring moved them under the bits: forward (01: mix), backward (01: return)
unfoldable pub moved : Wiring → ℕ → ℕ → List ℕ → List ℕ → List ℕ
moved w n width bits bytes = bytes_of (forward [] w (network n) bits (cut width n bytes))

unfoldable pub moved_back : Wiring → ℕ → ℕ → List ℕ → List ℕ → List ℕ
moved_back w n width bits bytes = bytes_of (backward [] w (network n) bits (cut width n bytes))

-- the order of a setting: entry i is the place to which the block at place i goes
unfoldable pub order_of : Wiring → ℕ → List ℕ → List ℕ
order_of w n bits = backward 0 w (network n) bits (identity n)
