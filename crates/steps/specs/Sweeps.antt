-- What the sweeps over a table do. The places of a network are counted inside it; `place` says where they lie in the whole.
-- Assumes nothing: these are definitions.
use Rattle.std.specs.Prelude.{Bool, true, false, not, cond, List, ℕ, zero, suc, ◌+◌, ltb, eqb, get_or, set}
use Rattle.answers.specs.Questions.{first_bad}
use Rattle.network.specs.Wiring.{Side}
use Rattle.network.specs.Move.{switch}

-- the number at place p of m places; an imagined place holds its own number
unfoldable pub look : (ℕ → ℕ) → ℕ → List ℕ → ℕ → ℕ
look place m xs p = cond (ltb p m) (get_or xs (place p) 0) p

-- the place, of m places, that holds a; a number that none holds is imagined at its own place
unfoldable pub seek : (ℕ → ℕ) → ℕ → List ℕ → ℕ → ℕ
seek place zero xs a = a
seek place (suc i) xs a = cond (eqb (get_or xs (place i) 0) a) i (seek place i xs a)

-- a stored at place p of m places; nothing is stored at any other
unfoldable pub store : (ℕ → ℕ) → ℕ → ℕ → ℕ → List ℕ → List ℕ
store place m p a xs = cond (ltb p m) (set xs (place p) a) xs

-- each of m places changed: place i by F i
unfoldable pub each : (ℕ → ℕ) → ℕ → (ℕ → ℕ → ℕ) → List ℕ → List ℕ
each place zero F xs = xs
each place (suc i) F xs = set (each place i F xs) (place i) (F i (get_or (each place i F xs) (place i) 0))

-- c switches act: switch i on the places of pair i, under bit b + i
unfoldable pub act : (Side → ℕ) → List ℕ → ℕ → ℕ → List ℕ → List ℕ
act at bits b zero xs = xs
act at bits b (suc i) xs = switch 0 (at (i, false)) (at (i, true)) (get_or bits (b + i) 0) (act at bits b i xs)

abbrev pub marked : List ℕ → ℕ → Bool
marked marks i = eqb (get_or marks i 0) 1

-- no pair of k is marked
abbrev pub none_marked : List ℕ → ℕ → Bool
none_marked marks k = eqb (first_bad (λ i. not (marked marks i)) k) k

-- the lowest unmarked pair of k, or k
abbrev pub lowest_unmarked : List ℕ → ℕ → ℕ
lowest_unmarked marks k = first_bad (marked marks) k
