-- Permutations of 0 .. n - 1 as lists (01: an order of n places lists 0 to n - 1, each once; entry i is the place to
-- which the block at place i goes). Assumes nothing: these are definitions.
use Rattle.std.specs.Prelude.{◌≡◌, Bool, true, false, ◌&&◌, not, List, [], ◌∷◌, ◌++◌, ℕ, zero, suc, ◌+◌, ◌<◌, ltb, eqb, length, get_or, set}
use Rattle.answers.specs.Questions.{first_bad}

abbrev pub bit : Bool → ℕ
bit true = 1
bit false = 0

-- how many of the indices below n pass a test
unfoldable pub how_many : (ℕ → Bool) → ℕ → ℕ
how_many test zero = 0
how_many test (suc n) = how_many test n + bit (test n)

-- how many of the first i entries are x
abbrev pub matches : List ℕ → ℕ → ℕ → ℕ
matches es i x = how_many (λ j. eqb (get_or es j 0) x) i

-- question 6 at one index: entry i is below n and unlike all earlier ones
unfoldable pub good_entry : ℕ → List ℕ → ℕ → Bool
good_entry n es i = ltb (get_or es i 0) n && eqb (matches es i (get_or es i 0)) 0

-- question 6 of a list: the first bad index, or the list's length
abbrev pub first_bad_entry : List ℕ → ℕ
first_bad_entry es = first_bad (good_entry (length es) es) (length es)

-- the same in words: n entries, each below n, no two alike
pub record IsPermutation (n : ℕ) (es : List ℕ) : Type 0 where
  pub whole : length es ≡ n
  pub below : (i : ℕ) → i < n → get_or es i 0 < n
  pub unlike : (i j : ℕ) → i < n → j < n → get_or es i 0 ≡ get_or es j 0 → i ≡ j

-- 'each once': a value of it, with the one place where it stands
pub record StandsOnce (n : ℕ) (es : List ℕ) (v : ℕ) : Type 0 where
  pub at : ℕ
  pub at_below : at < n
  pub holds : get_or es at 0 ≡ v
  pub only : (i : ℕ) → i < n → get_or es i 0 ≡ v → i ≡ at

-- f 0, f 1, .., f (n - 1)
unfoldable pub tabulate : (ℕ → ℕ) → ℕ → List ℕ
tabulate f zero = []
tabulate f (suc n) = tabulate f n ++ (f n ∷ [])

-- each place to itself (01: fresh)
abbrev pub identity : ℕ → List ℕ
identity n = tabulate (λ i. i) n

-- two entries exchanged
abbrev pub exchanged : List ℕ → ℕ → ℕ → List ℕ
exchanged es i j = set (set es i (get_or es j 0)) j (get_or es i 0)

-- first, then second: entry i is second[first[i]]
abbrev pub combined : List ℕ → List ℕ → List ℕ
combined first second = tabulate (λ i. get_or second (get_or first i 0) 0) (length first)

-- the first place that holds v, or the length
abbrev pub place_of : List ℕ → ℕ → ℕ
place_of es v = first_bad (λ i. not (eqb (get_or es i 0) v)) (length es)

-- entry v is the place that goes to v
abbrev pub inverted : List ℕ → List ℕ
inverted es = tabulate (place_of es) (length es)

-- the number of entries that stay home
abbrev pub fixed_points : List ℕ → ℕ
fixed_points es = how_many (λ i. eqb (get_or es i 0) i) (length es)
