-- What a setting of an order does to items. Assumes nothing: these are definitions.
use Rattle.std.specs.Prelude.{◌≡◌, List, ℕ, ◌<◌, get_or}
use Rattle.network.specs.Wiring.{Wiring}
use Rattle.network.specs.Network.{network}
use Rattle.network.specs.Move.{forward, backward}

module _ {A : Type 0} (d : A) (w : Wiring) (n : ℕ) (o bits : List ℕ) (xs : List A) where
  -- mixing takes the item at place i to place o[i]
  unfoldable pub Carries : Type 0
  Carries = (i : ℕ) → i < n → get_or (forward d w (network n) bits xs) (get_or o i 0) d ≡ get_or xs i d

  -- returning brings the item at place o[i] home to place i
  unfoldable pub BringsHome : Type 0
  BringsHome = (i : ℕ) → i < n → get_or (backward d w (network n) bits xs) i d ≡ get_or xs (get_or o i 0) d
