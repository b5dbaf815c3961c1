-- The counts of a network of n places, by their recursive rules.
-- Assumes nothing: these are definitions.
use Rattle.std.specs.Prelude.{ℕ, zero, suc, ◌+◌, ◌-◌, ◌*◌, ◌/◌, true, false, ltb, eqb}

-- half of n, rounded up: the places of the top network. The bottom network has the other `n - up n`
abbrev pub up : ℕ → ℕ
up n = (n + 1) / 2

-- A count that is 0 for a network of fewer than 2 places, and else `rule` of its places and the counts of its top and its
-- bottom. The first number is how deep the networks may be nested: a network of n places is nested less than n deep.
unfoldable pub by_halves : (ℕ → ℕ → ℕ → ℕ) → ℕ → ℕ → ℕ
by_halves rule zero m = 0
by_halves rule (suc d) m =
    elim (ltb m 2) [ true ↦ 0 | false ↦ rule m (by_halves rule d (up m)) (by_halves rule d (m - up m)) ]

-- one switch less than places, in the input and the output layer together
abbrev pub switch_rule : ℕ → ℕ → ℕ → ℕ
switch_rule m top bottom = m - 1 + top + bottom

-- W, the switch count
unfoldable pub W : ℕ → ℕ
W n = by_halves switch_rule n n

-- two places: steps 5 and 6. More: steps 1, 2, 3 for each of the `up m` pairs, and 4, 5, 6
abbrev pub entry_rule : ℕ → ℕ → ℕ → ℕ
entry_rule m top bottom = elim (eqb m 2) [ true ↦ 2 | false ↦ 3 * up m + 3 + top + bottom ]

-- E, the number of entries that the setter logs
unfoldable pub E : ℕ → ℕ
E n = by_halves entry_rule n n

-- the count of binary digits of x, of which at most d are counted
unfoldable pub digits_in : ℕ → ℕ → ℕ
digits_in zero x = 0
digits_in (suc d) zero = 0
digits_in (suc d) (suc x) = 1 + digits_in d (suc x / 2)

-- L, the count of binary digits of x: none for 0, and never more than x
unfoldable pub L : ℕ → ℕ
L x = digits_in x x
