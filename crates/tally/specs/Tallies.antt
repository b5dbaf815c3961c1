-- Counting comparisons. Assumes nothing: these are definitions.
use Rattle.std.specs.Prelude.{◌≡◌, ℕ, zero, suc, ◌+◌, ◌*◌, ◌/◌, ◌%◌, ◌^◌, ◌<◌, Bool, true, false, cond, List, length, bit_xor, nat_lt, slice_index}
use Rattle.tally.specs.declared.Tally.{Tally}

abbrev pub nothing : Tally
nothing = record { compared = 0; equal = 0 }

abbrev pub one : Bool → ℕ
one true = 1
one false = 0

-- one more was compared, and it was equal or not
abbrev pub counted : Tally → Bool → Tally
counted t same = record { compared = (t.compared + 1) % 2 ^ 64; equal = (t.equal + one same) % 2 ^ 64 }

-- the bytes of n blocks of a width, where both are what a call takes; else 0
abbrev pub block_bytes : ℕ → ℕ → ℕ
block_bytes n width = cond (nat_lt 1024 n) 0 (cond (nat_lt 256 width) 0 (n * width))

-- the number after x of a pseudo-random sequence, and of another that fills 32 bits
abbrev pub random : ℕ → ℕ
random x = (x % 65537 * 75 + 74) % 65537

abbrev pub scrambled : ℕ → ℕ
scrambled x =
    let a = bit_xor x ((x * 2 ^ 13) % 2 ^ 32) in
    let b = bit_xor a (a / 2 ^ 17) in
    bit_xor b ((b * 2 ^ 5) % 2 ^ 32)

-- what i steps of that sequence make of x
unfoldable pub after : ℕ → ℕ → ℕ
after zero x = x
after (suc i) x = scrambled (after i x)

-- n numbers: f 0, f 1, ..
pub record Holds (f : ℕ → ℕ) (n : ℕ) (words : List ℕ) : Type 0 where
  pub many : length words ≡ n
  pub each : (i : ℕ) → i < n → slice_index words i ≡ f i
