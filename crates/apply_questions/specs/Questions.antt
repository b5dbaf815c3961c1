-- The questions of mix and return (01, 'The questions').
-- Assumes nothing: these are definitions.
use Rattle.std.specs.Prelude.{List, [], ◌∷◌, ℕ}
use Rattle.answers.specs.Questions.{Question}
use Rattle.counts.specs.Counts.{W}
use Rattle.questions.specs.Asked.{places_few, width_fits, blocks_fill, bits_for, log_for, all_bits}

-- questions 1, 2, 3, 4, 5, 7: of n, the block width, the number of bytes that the blocks fill, the bits, and the number of
-- words that the log has
unfoldable pub apply_questions : (n width filled : ℕ) (bits : List ℕ) (room : ℕ) → List Question
apply_questions n width filled bits room =
    places_few n
    ∷ width_fits width
    ∷ blocks_fill n width filled
    ∷ bits_for n bits
    ∷ log_for (W n) room
    ∷ all_bits bits
    ∷ []
