-- What a sheet does, as text.
-- Assumes nothing: these are definitions.
use Rattle.std.specs.Prelude.{true, false, ◌&&◌, List, [], ◌∷◌, ◌++◌, ℕ, leb, length}
use Rattle.answers.specs.Questions.{first_no}
use Rattle.answers.specs.Outcomes.{Outcome, settled}
use Rattle.network.specs.Wiring.{paper}
use Rattle.network.specs.Blocks.{order_of}
use Rattle.sheets.specs.Calls.{places_in, read_questions, setting_in}
use Rattle.cmd_text.specs.Text.{text, decimal, bits_text, line}
use Rattle.cmd_picture.specs.Picture.{picture}

-- the entries of an order, each behind a space
unfoldable pub spaced : List ℕ → List ℕ
spaced [] = []
spaced (v ∷ vs) = text " " ++ (decimal v ++ spaced vs)

-- .. or `-` if none
unfoldable pub order_text : List ℕ → List ℕ
order_text [] = text " -"
order_text (v ∷ vs) = spaced (v ∷ vs)

-- the network, where it is small enough for a picture and has a switch
unfoldable pub pictured : ℕ → List ℕ → List ℕ
pictured n bits = elim (leb 2 n && leb n 16) [ true ↦ picture n bits | false ↦ [] ]

-- the places, the setting, the order that it carries, the picture
unfoldable pub setting_text : ℕ → List ℕ → List ℕ
setting_text n bits =
    line "places " (decimal n)
    ++ (line "setting " (bits_text bits)
    ++ (line "order" (order_text (order_of paper n bits))
    ++ pictured n bits))

-- the questions of reading a sheet, into room for the longest setting; the text over the front of the output, and as count
-- its bytes
unfoldable pub show_call : List ℕ → List ℕ → Outcome
show_call sheet out =
    settled (first_no (read_questions sheet 9217)) (length (setting_text (places_in sheet) (setting_in sheet)))
    (setting_text (places_in sheet) (setting_in sheet))
    out
