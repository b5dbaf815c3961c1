-- How many switches a picture has: as many columns and bits.
-- Assumes nothing.
use mathlib.Core.Path.{◌≡◌, refl, ◌∙◌}
use mathlib.Core.List.{List}
use Prim.Native.Nat.{ℕ, ◌≤◌, ◌<◌}
use native.Mathlib.Omega.{arith}
use borrow.Author.Tests.{leb-true}
use lib.Dec.{leb}
use lib.ListN.{length, get_or}
use Rattle.answers.specs.Questions.{first_bad_from}
use Rattle.answers.proofs.Questions.{all_good}
use Rattle.bits.specs.Bits.{Bits}
use Rattle.counts.specs.Counts.{W, by_halves}
use Rattle.counts.proofs.Rule.{W_more}
use Rattle.cmd_text.specs.Text.{bits_text}
use Rattle.cmd_text.proofs.Lines.{bits_long, bits_within}

-- at most 49 switches: one computed test
pub small : (n : ℕ) → n ≤ 16 → W n ≤ 49
unfolding first_bad_from W by_halves
small n h = leb-true (W n) 49 (all_good (λ m. leb (W m) 49) 17 refl n (omega arith))

-- the bits' characters are as many as the switches
pub bits_few : (n : ℕ) (bits : List ℕ) → n ≤ 16 → length bits ≡ W n → length (bits_text bits) ≤ 49
bits_few n bits h e = bits_within bits 49 (omega arith) (omega (arith, small n h))

pub bits_each : (n : ℕ) (bits : List ℕ) → 2 ≤ n → length bits ≡ W n → length (bits_text bits) ≡ W n
bits_each n bits h e = bits_long bits (λ z. omega (arith, W_more n h)) ∙ e

-- the bits of a setting, as the field says it and as the calls ask it
pub are_bits : (bits : List ℕ) → ((i : ℕ) → get_or bits i 0 < 2) → Bits bits
unfolding Bits
are_bits bits h = h

pub bits_are : (bits : List ℕ) → Bits bits → (i : ℕ) → get_or bits i 0 < 2
unfolding Bits
bits_are bits h = h
