-- The table of switch counts: known at every place by one test, which antt computes. The test walks over the table once and
-- holds each number against the rule, of the table's own numbers for the two halves: that all of them pass makes them the
-- counts.
-- Assumes nothing.
use mathlib.Core.Path.{◌≡◌, ◌∙◌, ap}
use mathlib.Core.Bool.{Bool, true, false, ◌&&◌, and-eq-true_iff}
use mathlib.Core.List.{List, [], ◌∷◌}
use Prim.Native.Nat.{ℕ, zero, suc, ◌+◌, ◌-◌, ◌/◌, ◌%◌, ◌<◌}
use native.Mathlib.Nat.{add-zero, zero-add, add-suc, suc-add, le_of_suc-le-suc, not-suc-le-zero}
use native.Mathlib.Omega.{arith}
use native.Mathlib.Decide.{dec_lt}
use lib.Dec.{eqb, ltb}
use lib.ListN.{length, get_or, drop}
use lib.Seq.{get_or-drop}
use borrow.Author.Tests.{eqb-true, lt-ltb, le-ltb}
use Rattle.counts.specs.Counts.{up, switch_rule, W}
use Rattle.counts.specs.Table.{StandsAt}
use Rattle.counts.proofs.Rule.{up_parts, W_none, W_more}

-- the count for n places, of the counts of the halves
abbrev pub counted : ℕ → ℕ → ℕ → ℕ
counted n top bottom = elim (ltb n 2) [ true ↦ 0 | false ↦ switch_rule n top bottom ]

-- the count for n places, where `halves` are the table's numbers from place n / 2 on
abbrev pub due : ℕ → List ℕ → ℕ
due n halves = counted n (get_or halves (n % 2) 0) (get_or halves 0 0)

-- the test, for the numbers from place n on
abbrev pub follows : ℕ → List ℕ → List ℕ → Bool
follows n [] halves = true
follows n (x ∷ rest) halves = eqb x (due n halves) && follows (suc n) rest (drop (n % 2) halves)

abbrev pub tested : List ℕ → Bool
tested table = follows 0 table table

-- the test of the first number, and of the rest
parts :
    (x n : ℕ) (rest halves : List ℕ)
    → follows n (x ∷ rest) halves ≡ true
    → (x ≡ due n halves) × (follows (suc n) rest (drop (n % 2) halves) ≡ true)
parts x n rest halves t =
    let both = (and-eq-true_iff (eqb x (due n halves)) (follows (suc n) rest (drop (n % 2) halves))).0 t in
    (eqb-true x (due n halves) both.0, both.1)

from :
    (table rest halves : List ℕ) (n : ℕ)
    → ((i : ℕ) → get_or halves i 0 ≡ get_or table (n / 2 + i) 0)
    → follows n rest halves ≡ true
    → (k : ℕ) → k < length rest
    → get_or rest k 0 ≡ counted (n + k) (get_or table (up (n + k)) 0) (get_or table (n + k - up (n + k)) 0)
from table [] halves n beside t k h = absurd (not-suc-le-zero h)
from table (x ∷ rest) halves n beside t zero h =
    let bottom : n / 2 + 0 ≡ n - up n = omega arith in
    rw (add-zero n) ((parts x n rest halves t).0 ∙ rw (beside (n % 2), beside 0, up_parts n, bottom))
from table (x ∷ rest) halves n beside t (suc k) h =
    rw (add-suc n k, ← suc-add n k)
    (from table rest (drop (n % 2) halves) (suc n)
    (λ i. get_or-drop (n % 2) halves i 0 ∙ beside (n % 2 + i) ∙ ap (λ (j : ℕ). get_or table j 0) (omega arith))
    (parts x n rest halves t).1
    k
    (le_of_suc-le-suc h))

at :
    (table : List ℕ) → tested table ≡ true
    → (n : ℕ) → n < length table → get_or table n 0 ≡ counted n (get_or table (up n) 0) (get_or table (n - up n) 0)
at table t n h = rw (zero-add n) at (from table table table 0 (λ i. rw (zero-add i)) t n h)

-- by strong induction: the numbers for the halves are counts, so this one is
below : (table : List ℕ) → tested table ≡ true → (d n : ℕ) → n < d → n < length table → get_or table n 0 ≡ W n
below table t zero n g h = absurd (not-suc-le-zero g)
below table t (suc d) n g h = go (dec_lt n 2) (below table t d (up n)) (below table t d (n - up n))
  where
    go :
        Dec (n < 2)
        → (up n < d → up n < length table → get_or table (up n) 0 ≡ W (up n))
        → (n - up n < d → n - up n < length table → get_or table (n - up n) 0 ≡ W (n - up n))
        → get_or table n 0 ≡ W n
    go (yes l) top bottom = at table t n h ∙ rw (lt-ltb n 2 l, counted, W_none n l)
    go (no l) top bottom =
        at table t n h
        ∙ rw (
          le-ltb n 2 (omega arith),
          counted,
          top (omega arith) (omega arith),
          bottom (omega arith) (omega arith),
          W_more n (omega arith),
        )

-- a number read from a table that passes the test
pub holds : {table : List ℕ} {n r : ℕ} → StandsAt table n r → tested table ≡ true → n < length table → r ≡ W n
holds {table} {n} s t h = s.is ∙ below table t (suc n) n (omega arith) h
