-- The largest counts: those of 1,024 places.
-- Assumes nothing.
use Prim.Native.Nat.{ℕ, ◌≤◌}
use native.Mathlib.Omega.{arith}
use Rattle.counts.specs.Counts.{W, E}
use Rattle.counts.proofs.Bounds.{W_rises, E_rises}
use Rattle.counts.proofs.Values.{named}

pub switches_few : (n : ℕ) → n ≤ 1024 → W n ≤ 9217
switches_few n h = omega (arith, W_rises n 1024 h, named.w_1024)

pub entries_few : (n : ℕ) → n ≤ 1024 → E n ≤ 16381
entries_few n h = omega (arith, E_rises n 1024 h, named.e_1024)
