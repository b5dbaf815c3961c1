-- What a function that runs some switches on lent blocks, and logs them, asks for and leaves behind.
-- Assumes nothing: these are definitions.
use Rattle.std.specs.Prelude.{◌≡◌, cond, List, [], ℕ, ◌+◌, ◌-◌, ◌*◌, ◌/◌, ◌≤◌, ◌<◌, length}
use Rattle.answers.specs.Buffers.{overlay}
use Rattle.bits.specs.Bits.{Bits}
use Rattle.network.specs.Network.{network}
use Rattle.network.specs.Blocks.{cut}
use Rattle.network.specs.Log.{Entry, entry_words, words, layer_entries, switches, run}
use Rattle.network.specs.Shift.{shifted}
use Rattle.wirings.specs.declared.Net.{Net}
use Rattle.wirings.specs.Nets.{wiring_of}

-- how many blocks of `width` bytes are lent
unfoldable pub blocks_in : ℕ → List ℕ → ℕ
blocks_in width bytes = length bytes / width

-- What is lent for `count` switches, whose entries stand in the log from entry number e on: the blocks from place o of the whole on,
-- and bits and log for e + count entries.
pub record Lent (width o count e : ℕ) (bytes bits log : List ℕ) : Type 0 where
  pub places : o + blocks_in width bytes ≤ 1024
  pub wide : 1 ≤ width
  pub narrow : width ≤ 256
  pub whole : blocks_in width bytes * width ≡ length bytes
  pub enough : e + count ≤ length bits
  pub room : entry_words * (e + count) ≤ length log
  pub short : length bits ≤ 9217
  pub settings : Bits bits

-- The entries `es` were run: on the lent blocks of `width` bytes, their places counted in these, and each under the bit at its own
-- position. They stand in the log from entry number e on, their places counted in the whole, where the lent blocks begin at place o;
-- the rest of the log is kept. `bytes` and `log` are the buffers before, `bytes'` and `log'` after.
pub record Ran (width : ℕ) (bits : List ℕ) (es : List Entry) (o e : ℕ) (bytes log bytes' log' : List ℕ) : Type 0 where
  pub blocks : cut width (blocks_in width bytes) bytes' ≡ run [] bits es (cut width (blocks_in width bytes) bytes)
  pub logged : log' ≡ overlay log (entry_words * e) (words (shifted o es))

-- where the bits of `count` switches begin that the return logs from entry number e on: as far from the end as e from 0 (of mix: at e)
abbrev pub back_from : List ℕ → ℕ → ℕ → ℕ
back_from bits e count = length bits - (e + count)

-- the first c switches of a layer whose bits begin at b: switch i on the place i steps from the first, and on the one a gap further
abbrev pub layer_of : ℕ → ℕ → ℕ → ℕ → List Entry
layer_of step gap b c = layer_entries (λ p. cond p.1 (p.0 * step + gap) (p.0 * step)) b c

-- their places are among n, and so is the step
pub record Pairs (n step gap c : ℕ) : Type 0 where
  pub pace : step ≤ n
  pub apart : 1 ≤ gap
  pub near : gap < n
  pub lies : (i : ℕ) → i < c → i * step + gap < n

-- all switches of a network in the sequence of their bits, which begin at b, their places counted from its own first
abbrev pub switches_of : Net → ℕ → List Entry
switches_of net b = switches (wiring_of net.topology) (network net.size) (λ i. i * net.apart) b
