-- Entries of a part of a network, as they stand in the log of the whole.
-- Assumes nothing: these are definitions.
use Rattle.std.specs.Prelude.{List, [], ◌∷◌, ℕ, ◌+◌}
use Rattle.network.specs.Log.{Entry, entry}

-- the same entries where their places are counted from o on
unfoldable pub shifted : ℕ → List Entry → List Entry
shifted o [] = []
shifted o (e ∷ es) = entry e.kind (o + e.first) (o + e.second) e.bit ∷ shifted o es
