-- A network under a setting as text: one row a place, one column a switch, in the sequence of the bits. The bits stand above
-- their columns, and a gap between those of the network's input switches, its top, its bottom and its output switches.
-- Assumes nothing: these are definitions.
use Rattle.std.specs.Prelude.{true, false, ◌&&◌, ◌||◌, List, [], ◌∷◌, ◌++◌, ℕ, zero, suc, ltb, eqb, get_or, drop}
use Prim.Native.Char.{code}
use Rattle.network.specs.Wiring.{paper}
use Rattle.network.specs.Log.{Entry, apply_entries}
use Rattle.cmd_text.specs.Text.{text, character, bits_text}
use Rattle.cmd_picture_line.specs.Line.{label, grouped}

-- what the switch on two places shows at a place: its bit at the two, a bar between them, elsewhere the wire
abbrev pub mark : ℕ → ℕ → ℕ → ℕ → ℕ
mark lower upper bit place =
    elim (eqb place lower || eqb place upper) [
      | true ↦ character bit
      | false ↦ elim (ltb lower place && ltb place upper) [ true ↦ code "|" | false ↦ code "-" ]
    ]

-- the columns of a place: one for each switch, under its own bit
unfoldable pub columns : List Entry → List ℕ → ℕ → List ℕ
columns [] bits place = []
columns (e ∷ es) bits place = mark e.first e.second (get_or bits 0 0) place ∷ columns es (drop 1 bits) place

-- ---- lines

-- the bits, each above its column
abbrev pub heading : ℕ → List ℕ → List ℕ
heading n bits = text "   " ++ (grouped n (bits_text bits) ++ text "\n")

abbrev pub row : ℕ → List Entry → List ℕ → ℕ → List ℕ
row n es bits place = label place ++ (grouped n (columns es bits place) ++ text "\n")

-- the rows of the first places
unfoldable pub rows : ℕ → List Entry → List ℕ → ℕ → List ℕ
rows n es bits zero = []
rows n es bits (suc place) = rows n es bits place ++ row n es bits place

-- the network of n places
unfoldable pub picture : ℕ → List ℕ → List ℕ
picture n bits = heading n bits ++ rows n (apply_entries paper n) bits n
