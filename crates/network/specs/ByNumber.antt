-- 01's own rule of running a log of mixing or of returning ('Running a log'): an entry's number in the log tells its bit. It counts
-- entries and reads no fourth word (02, F-7), and it knows nothing of how entries are made.
-- Assumes nothing: these are definitions.
use Rattle.std.specs.Prelude.{cond, List, [], ◌∷◌, ℕ, suc, ◌-◌, eqb, get_or}
use Rattle.counts.specs.Counts.{W}
use Rattle.network.specs.Move.{switch}
use Rattle.network.specs.Log.{Entry}

-- mixing: entry e uses bit e
abbrev pub mixing_bit : List ℕ → ℕ → ℕ
mixing_bit bits e = get_or bits e 0

-- returning n blocks: entry e uses bit W(n) − 1 − e
abbrev pub returning_bit : ℕ → List ℕ → ℕ → ℕ
returning_bit n bits e = get_or bits (W n - 1 - e) 0

module _ {A : Type 0} (d : A) where
  -- entries one after the other, the first being number e: an entry of kind 7 exchanges the items at its two places where the bit
  -- of its number is 1
  unfoldable pub run_by_number : (ℕ → ℕ) → ℕ → List Entry → List A → List A
  run_by_number bit e [] xs = xs
  run_by_number bit e (x ∷ es) xs =
      run_by_number bit (suc e) es (cond (eqb x.kind 7) (switch d x.first x.second (bit e) xs) xs)
