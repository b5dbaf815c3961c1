-- The table of pairs: which pairs of a network are marked during its rounds, and the bits of their input switches.
-- Pair i holds i where it is unmarked; 1,024 more where it is marked, and then 2,048 more where its bit is 1.
-- Assumes nothing: these are definitions.
use Rattle.std.specs.Prelude.{◌≡◌, Bool, not, cond, List, ℕ, ◌+◌, ◌*◌, ◌/◌, ◌%◌, ◌<◌, ltb, eqb, get_or}
use Rattle.answers.specs.Questions.{first_bad}
use Rattle.steps.specs.Sweeps.{store, each}
use Rattle.steps.specs.Steps.{digit}
use Rattle.control_rows.specs.Rows.{sixteens}

abbrev pub mark_in : List ℕ → ℕ → Bool
mark_in pairs i = not (ltb (get_or pairs i 0) 1024)

abbrev pub bit_in : List ℕ → ℕ → ℕ
bit_in pairs i = get_or pairs i 0 / 2048

-- the marks that the table holds of k pairs
unfoldable pub marks_in : ℕ → List ℕ → List ℕ → List ℕ
marks_in k pairs marks = each (λ i. i) k (λ i mark. digit (mark_in pairs i)) marks

-- and the n bits from b on: an unmarked pair's bit is as it was
unfoldable pub bits_in : ℕ → ℕ → List ℕ → List ℕ → List ℕ
bits_in b n pairs bits = each (λ i. b + i) n (λ i bit. cond (mark_in pairs i) (bit_in pairs i) bit) bits

-- no pair of k is marked
abbrev pub none_in : ℕ → List ℕ → Bool
none_in k pairs = eqb (first_bad (λ i. not (mark_in pairs i)) k) k

-- each holds its own number, and no more than a mark and a bit beside it
unfoldable pub Numbered : ℕ → List ℕ → Type 0
Numbered k pairs = (i : ℕ) → i < sixteens k → (get_or pairs i 0 % 1024 ≡ i) × (get_or pairs i 0 < 4096)

unfoldable pub Unmarked : ℕ → List ℕ → Type 0
Unmarked k pairs = (i : ℕ) → i < sixteens k → get_or pairs i 0 ≡ i

-- pair p was marked, with its bit, and low is the lowest pair of k that is unmarked then, or k
pub record Settled (k p bit : ℕ) (before after : List ℕ) (low : ℕ) : Type 0 where
  pub pairs : after ≡ store (λ i. i) (sixteens k) p (p + 1024 + 2048 * bit) before
  pub lowest : low ≡ first_bad (mark_in after) k
