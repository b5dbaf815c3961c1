-- The questions of 01 ('The questions') and 02 that more than one call asks, each with its number and the place that a no names.
-- A call's list of questions is built of these.
-- Assumes nothing: these are definitions.
use Rattle.std.specs.Prelude.{◌&&◌, List, ℕ, ◌*◌, leb, eqb, length}
use Rattle.answers.specs.Questions.{Question, ask, ask_each}
use Rattle.bits.specs.Bits.{is_bit}
use Rattle.counts.specs.Counts.{W}
use Rattle.network.specs.Log.{entry_words}
use Rattle.permutation.specs.Permutations.{good_entry}

-- 'Is n at most 1,024? 1'
abbrev pub places_few : (n : ℕ) → Question
places_few n = ask 1 0 (leb n 1024)

-- 'Is the block width 1 to 256 bytes? 2'
abbrev pub width_fits : (width : ℕ) → Question
width_fits width = ask 2 0 (leb 1 width && leb width 256)

-- 'Do the blocks fill exactly n × width bytes? 3'
abbrev pub blocks_fill : (n width filled : ℕ) → Question
blocks_fill n width filled = ask 3 0 (eqb filled (n * width))

-- 'Are there exactly W(n) bit bytes? 4'
abbrev pub bits_for : (n : ℕ) (bits : List ℕ) → Question
bits_for n bits = ask 4 0 (eqb (length bits) (W n))

-- 'Has the log at least 3 words for each entry due? 5'; four words since 02, F-7
abbrev pub log_for : (entries room : ℕ) → Question
log_for entries room = ask 5 0 (leb (entry_words * entries) room)

-- 'Is each entry below n and unlike all earlier ones? 6, at the first bad index', n being the list's length
abbrev pub an_order : (order : List ℕ) → Question
an_order order = ask_each 6 (good_entry (length order) order) (length order)

-- 'Is every bit byte 0 or 1? 7, at the first bad index'
abbrev pub all_bits : (bits : List ℕ) → Question
all_bits bits = ask_each 7 (is_bit bits) (length bits)

-- 'Does the input end there? 12, at the first surplus byte'
abbrev pub ends_at : (place : ℕ) (input : List ℕ) → Question
ends_at place input = ask 12 place (leb (length input) place)

-- 'Is the output long enough? 13'
abbrev pub room_for : (due room : ℕ) → Question
room_for due room = ask 13 0 (leb due room)

-- 02, F-3: '17 when the length is over 6'
abbrev pub listable : (n : ℕ) → Question
listable n = ask 17 0 (leb n 6)
