-- An entry as one number, of which its four words are digits in base 65536: the entries of a layer's switches are evenly apart.
-- Assumes nothing: these are definitions.
use Rattle.std.specs.Prelude.{ℕ, ◌+◌, ◌*◌, ◌/◌, ◌%◌}
use Rattle.network.specs.Log.{Entry, entry}

abbrev pub packed : ℕ → ℕ → ℕ → ℕ → ℕ
packed kind first second bit = kind + first * 65536 + second * 4294967296 + bit * 281474976710656

abbrev pub unpacked : ℕ → Entry
unpacked x = entry (x % 65536) (x / 65536 % 65536) (x / 4294967296 % 65536) (x / 281474976710656)
