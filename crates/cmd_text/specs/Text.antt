-- The lines that the programs print (01, 'Month cases').
-- Assumes nothing: these are definitions.
use Rattle.std.specs.Prelude.{true, false, List, [], ◌∷◌, ◌++◌, ℕ, zero, suc, ◌+◌, ◌/◌, ◌%◌, ltb, eqb, ℤ, pos, negsuc}
use Prim.Native.Char.{code}
use Prim.Native.String.{String, [] as empty, ◌∷◌ as ◌then◌}

-- the bytes of a quoted text
abbrev pub text : String → List ℕ
text empty = []
text (c then s) = code c ∷ text s

-- the decimal digits of a number, the highest first; of the lowest d digits where it has more
unfoldable pub digits : ℕ → ℕ → List ℕ
digits zero v = []
digits (suc d) v = elim (ltb v 10) [ true ↦ (code "0" + v) ∷ [] | false ↦ digits d (v / 10) ++ ((code "0" + v % 10) ∷ []) ]

-- a number in decimal: it has fewer digits than v + 1
unfoldable pub decimal : ℕ → List ℕ
decimal v = digits (suc v) v

-- .. and with its sign, where it is below 0 (`negsuc n` is −(n + 1))
unfoldable pub signed : ℤ → List ℕ
signed (pos n) = decimal n
signed (negsuc n) = text "-" ++ decimal (suc n)

-- bits in sequence
abbrev pub character : ℕ → ℕ
character b = elim (eqb b 1) [ true ↦ code "1" | false ↦ code "0" ]

unfoldable pub characters : List ℕ → List ℕ
characters [] = []
characters (b ∷ bs) = character b ∷ characters bs

-- .. or `-` if none
unfoldable pub bits_text : List ℕ → List ℕ
bits_text [] = text "-"
bits_text (b ∷ bs) = characters (b ∷ bs)

-- ---- the lines, each with its newline

abbrev pub line : String → List ℕ → List ℕ
line label content = text label ++ (content ++ text "\n")

-- a refusal: the question's number and the place of its no
unfoldable pub refusal_line : ℕ → ℕ → List ℕ
refusal_line q p = text "refused " ++ (decimal q ++ line " at " (decimal p))
