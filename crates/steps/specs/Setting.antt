-- The setting of an order: what is left in the bits when all the setter's steps are done in their sequence (01: set).
-- Assumes nothing: this is a definition.
use Rattle.std.specs.Prelude.{List, ℕ, length}
use Rattle.network.specs.Wiring.{Wiring}
use Rattle.steps.specs.Sequence.{set_entries}
use Rattle.steps.specs.Run.{setting_of}

abbrev pub setting_for : Wiring → List ℕ → List ℕ
setting_for w order = setting_of w order (set_entries w (length order))
