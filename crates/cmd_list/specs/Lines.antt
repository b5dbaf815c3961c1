-- A text in its lines, and what has to stand in them (02, F-3).
-- Assumes nothing: these are definitions.
use Rattle.std.specs.Prelude.{◌≡◌, true, false, List, [], ◌∷◌, ℕ, ◌<◌, eqb, length, get_or}
use Prim.Native.Char.{code}
use Rattle.network.specs.Wiring.{paper}
use Rattle.network.specs.Network.{network}
use Rattle.canonical.specs.Rule.{Canonical}
use Rattle.steps.specs.Setting.{setting_for}
use Rattle.orders_listed.specs.Ranks.{factorial, order_at}
use Rattle.cmd_list.specs.Listing.{order_line}

-- a character at the front of the first line
abbrev pub on_first : ℕ → List (List ℕ) → List (List ℕ)
on_first c [] = (c ∷ []) ∷ []
on_first c (l ∷ ls) = (c ∷ l) ∷ ls

-- a text cut behind each newline; what stands behind the last newline is a line of its own, without one
unfoldable pub lines_in : List ℕ → List (List ℕ)
lines_in [] = []
lines_in (c ∷ cs) = elim (eqb c (code "\n")) [ true ↦ (c ∷ []) ∷ lines_in cs | false ↦ on_first c (lines_in cs) ]

-- a line for each order of n places: n! lines, and line r, counted from 0, is that of the r-th order, with its house setting
pub record OneLineEach (n : ℕ) (printed : List ℕ) : Type 0 where
  pub count : length (lines_in printed) ≡ factorial n
  pub each : (r : ℕ) → r < factorial n → get_or (lines_in printed) r [] ≡ order_line n r
  pub house : (r : ℕ) → r < factorial n → Canonical paper (network n) (order_at n r) (setting_for paper (order_at n r))
