-- How step 3 turns the walk, and what it keeps of the pairs.
-- Assumes nothing: these are definitions.
use Rattle.std.specs.Prelude.{◌≡◌, false, not, cond, List, ℕ, ◌+◌, ◌<◌, ltb, eqb, get_or}
use Rattle.network.specs.Wiring.{Wiring}
use Rattle.steps.specs.Steps.{other, digit}
use Rattle.control_pairs.specs.Pairs.{Numbered, none_in}
use Rattle.control_walk.specs.declared.Walk.{Walk}

-- the walk after step 3: low is the lowest unmarked pair, or k; any is 1 where a pair is marked
abbrev pub turned : Wiring → ℕ → ℕ → ℕ → Walk → Walk
turned wiring k low any w =
    let f = other wiring k w.s in
    let again = cond (eqb f w.c) (ltb low k) false in
    let next = wiring.enc k (low, false) in
    record { f = cond again next f; c = cond again next w.c; g = w.g; s = w.s; any = any; e = w.e + 1; b = w.b }

-- between two rounds: the table holds the numbers of k pairs, the walk knows whether one is marked, and its places are small
pub record Held (k : ℕ) (pairs : List ℕ) (w : Walk) : Type 0 where
  pub numbered : Numbered k pairs
  pub any_is : w.any ≡ digit (not (none_in k pairs))
  pub f_below : w.f < 32768
  pub c_below : w.c < 32768

-- the m values of a row are small
unfoldable pub Small : ℕ → List ℕ → Type 0
Small m row = (i : ℕ) → i < m → get_or row i 0 < 32768
