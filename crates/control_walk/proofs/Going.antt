-- How a walk goes on by one step.
-- Assumes nothing.
use mathlib.Core.Path.{◌≡◌}
use mathlib.Core.List.{List, [], ◌∷◌}
use Prim.Native.Nat.{ℕ, ◌+◌, ◌*◌}
use native.Mathlib.Omega.{arith}
use Rattle.answers.specs.Buffers.{overlay}
use Rattle.network.specs.Log.{entry, entry_words, words}
use Rattle.control_walk.specs.declared.Walk.{Walk}
use Rattle.control_walk.specs.Walks.{Went}

-- an entry written, and n bits passed
abbrev pub onward : ℕ → Walk → Walk
onward n w = record { f = w.f; c = w.c; g = w.g; s = w.s; any = w.any; e = w.e + 1; b = w.b + n }

pub went_one : (kind o m bit n : ℕ) (w r : Walk) (before after : List ℕ) → r.e ≡ w.e + 1 → r.b ≡ w.b + n
    → after ≡ overlay before (entry_words * w.e) (words (entry kind o m bit ∷ [])) → Went (entry kind o m bit ∷ []) n w r before after
went_one kind o m bit n w r before after e b l = record { count = omega (arith, e); bit = b; log = l }
