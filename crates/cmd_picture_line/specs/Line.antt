-- A line of a picture: the number of a place, and columns with a gap between those of the network's input switches, its top,
-- its bottom and its output switches.
-- Assumes nothing: these are definitions.
use Rattle.std.specs.Prelude.{true, false, List, [], ◌∷◌, ◌++◌, ℕ, ◌+◌, ◌-◌, ◌/◌, ◌%◌, ltb, take, drop}
use Prim.Native.Char.{code}
use Rattle.counts.specs.Counts.{W, up}
use Rattle.cmd_text.specs.Text.{text}

-- a place's number, right-aligned in two columns, and a space
abbrev pub high_digit : ℕ → ℕ
high_digit place = elim (ltb place 10) [ true ↦ code " " | false ↦ code "0" + place / 10 ]

abbrev pub label : ℕ → List ℕ
label place = high_digit place ∷ (code "0" + place % 10) ∷ code " " ∷ []

-- ---- gaps

-- the columns of some switches and a gap behind them: nothing where there is no switch
unfoldable pub group : List ℕ → List ℕ
group [] = []
group (c ∷ cs) = c ∷ (cs ++ text " ")

-- columns in four groups, by the columns with which the second, the third and the fourth begin
abbrev pub groups : ℕ → ℕ → ℕ → List ℕ → List ℕ
groups a b c cs = group (take a cs) ++ (group (take (b - a) (drop a cs)) ++ (group (take (c - b) (drop b cs)) ++ drop c cs))

-- those of a network of n places: its input switches, top, bottom and output switches
abbrev pub top_at : ℕ → ℕ
top_at n = up n - 1

abbrev pub bottom_at : ℕ → ℕ
bottom_at n = top_at n + W (up n)

abbrev pub output_at : ℕ → ℕ
output_at n = bottom_at n + W (n - up n)

unfoldable pub grouped : ℕ → List ℕ → List ℕ
grouped n cs = groups (top_at n) (bottom_at n) (output_at n) cs
