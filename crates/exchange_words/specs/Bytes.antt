-- A switch on two blocks as it is done on their bytes.
-- Assumes nothing: these are definitions.
use Rattle.std.specs.Prelude.{ℕ, zero, suc, ◌+◌, List}
use Rattle.network.specs.Move.{switch}

-- the first c bytes from a on and those that lie `gap` further on: bit 1 exchanges them, another leaves them
unfoldable pub bytes_switched : ℕ → ℕ → ℕ → ℕ → List ℕ → List ℕ
bytes_switched a gap bit zero bytes = bytes
bytes_switched a gap bit (suc j) bytes = switch 0 (a + j) (a + j + gap) bit (bytes_switched a gap bit j bytes)
