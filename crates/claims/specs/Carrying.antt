-- Demand 2, of one order in one wiring, over the outcomes of the calls; and what it says of sheets, which are the paper's.
-- Assumes nothing: these are definitions.
use Rattle.std.specs.Prelude.{◌≡◌, List, [], ℕ, ◌*◌, ◌≤◌, ◌<◌, length, get_or}
use Rattle.answers.specs.Answers.{accepted}
use Rattle.answers.specs.Buffers.{overlay}
use Rattle.answers.specs.Outcomes.{outcome}
use Rattle.bits.specs.Bits.{Bits}
use Rattle.counts.specs.Counts.{W, E}
use Rattle.network.specs.Blocks.{cut}
use Rattle.network.specs.Log.{entry_words}
use Rattle.canonical.specs.Rule.{ExactlyOne}
use Rattle.sheets.specs.Sheet.{sheet}
use Rattle.sheets.specs.Calls.{write_sheet, read_sheet}
use Rattle.wirings.specs.declared.Topology.{Topology}
use Rattle.wirings.specs.Nets.{wiring_of}
use Rattle.claims.specs.Calls.{Direction, set, move, mix, return, outcome_of}

-- block i of n blocks of `width` bytes
abbrev pub block : ℕ → ℕ → List ℕ → ℕ → List ℕ
block n width bytes i = get_or (cut width n bytes) i []

-- a setting of n places: a 0 or a 1 for each switch
pub record Setting (n : ℕ) (bits : List ℕ) : Type 0 where
  pub count : length bits ≡ W n
  pub are_bits : Bits bits

-- lent blocks: n of 1 to 256 bytes
pub record Filled (n width : ℕ) (blocks : List ℕ) : Type 0 where
  pub some_width : 1 ≤ width
  pub width_small : width ≤ 256
  pub blocks_fill : length blocks ≡ n * width

-- lent logs: four words for each entry of the setter, or for each switch
abbrev pub RoomToSet : ℕ → List ℕ → Type 0
RoomToSet n log = entry_words * E n ≤ length log

abbrev pub RoomToMove : ℕ → List ℕ → Type 0
RoomToMove n log = entry_words * W n ≤ length log

pub record Demand2 (t : Topology) (n : ℕ) (order : List ℕ) : Type 0 where
  -- one setting of the order is canonical, and no other
  pub house : ExactlyOne (wiring_of t) n order
  pub house_setting : Setting n house.setting
  -- set is accepted and leaves it in the lent bits, whatever stood there and in the log
  pub set_accepted : (bits log : List ℕ) → length bits ≡ W n → RoomToSet n log
      → (outcome_of (set t order bits log)).answer ≡ accepted (E n)
  pub set_leaves : (bits log : List ℕ) → length bits ≡ W n → RoomToSet n log
      → (outcome_of (set t order bits log)).buffer ≡ house.setting
  -- mix and return under it are accepted
  pub move_accepted : (d : Direction) (width : ℕ) (blocks log : List ℕ) → Filled n width blocks → RoomToMove n log
      → (outcome_of (move t d n width blocks house.setting log)).answer ≡ accepted (W n)
  -- mixing carries the block at each place i to place order[i]
  pub carries : (width : ℕ) (blocks log : List ℕ) → Filled n width blocks → RoomToMove n log
      → (i : ℕ) → i < n
      → block n width (outcome_of (mix t n width blocks house.setting log)).buffer (get_or order i 0) ≡ block n width blocks i
  -- the return brings each block home, and after mixing all of them
  pub brings_home : (width : ℕ) (blocks log : List ℕ) → Filled n width blocks → RoomToMove n log
      → (i : ℕ) → i < n
      → block n width (outcome_of (return t n width blocks house.setting log)).buffer i ≡ block n width blocks (get_or order i 0)
  pub returns : (width : ℕ) (blocks log other : List ℕ) → Filled n width blocks → RoomToMove n log → RoomToMove n other
      → (outcome_of (return t n width (outcome_of (mix t n width blocks house.setting log)).buffer house.setting other)).buffer ≡ blocks

-- the sheet of every setting of the paper's wiring, the canonical one or another, is written wherever there is room, and reads
-- back as that setting, into any buffer with room for it
pub record SheetsReadBack (n : ℕ) : Type 0 where
  pub sheet_written : (bits out : List ℕ) → Setting n bits → length (sheet n bits) ≤ length out
      → write_sheet n bits out ≡ outcome (accepted (length (sheet n bits))) (overlay out 0 (sheet n bits))
  pub sheet_read : (bits buffer : List ℕ) → Setting n bits → W n ≤ length buffer
      → read_sheet (sheet n bits) buffer ≡ outcome (accepted n) (overlay buffer 0 bits)
