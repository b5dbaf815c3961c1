-- The values that the paper names.
-- Assumes nothing.
use mathlib.Core.Path.{◌≡◌, refl}
use Rattle.counts.specs.Counts.{W, E, by_halves}

pub record Named : Type 0 where
  pub w_9 : W 9 ≡ 21
  pub w_1024 : W 1024 ≡ 9217
  pub e_3 : E 3 ≡ 11
  pub e_9 : E 9 ≡ 56
  pub e_1024 : E 1024 ≡ 16381

pub named : Named
unfolding W E by_halves
named = record { w_9 = refl; w_1024 = refl; e_3 = refl; e_9 = refl; e_1024 = refl }
