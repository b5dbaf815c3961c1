-- An entry written word by word, and entries written behind entries.
-- Assumes nothing.
use mathlib.Core.Path.{◌≡◌, ap, ◌∙◌}
use mathlib.Core.List.{List, [], ◌∷◌, ◌++◌, append_assoc}
use Prim.Native.Nat.{ℕ, suc, ◌+◌, ◌*◌, ◌/◌, ◌%◌, ◌≤◌, ◌<◌}
use native.Mathlib.Numerals.{add-one}
use native.Mathlib.Omega.{arith}
use lib.ListN.{length, set, take, drop}
use lib.Seq.{sets-eq}
use Rattle.answers.specs.Buffers.{overlay}
use Rattle.answers.proofs.Buffers.{overlay_then}
use Rattle.network.specs.Log.{Entry, entry, entry_words, words}
use Rattle.entry_log.specs.Packed.{packed, unpacked}
use Rattle.network.proofs.Shape.{words_append, length-words}

pub entry-written : (l : List ℕ) (at kind first second bit : ℕ) → at + entry_words ≤ length l
    → set (set (set (set l at kind) (at + 1) first) (at + 2) second) (at + 3) bit ≡ overlay l at (words (entry kind first second bit ∷ []))
unfolding overlay words
entry-written l at kind first second bit h =
    let es = kind ∷ first ∷ second ∷ bit ∷ [] in
    let two : at + 2 ≡ suc (suc at) = omega arith in
    let three : at + 3 ≡ suc (suc (suc at)) = omega arith in
    rw (add-one, two, three) (sets-eq es l at h ∙ append_assoc (take at l) es (drop (at + entry_words) l))

-- the digits of a packed entry
entry-packed : (kind first second bit : ℕ) → kind < 65536 → first < 65536 → second < 65536
    → unpacked (packed kind first second bit) ≡ entry kind first second bit
entry-packed kind first second bit hk hf hs =
    let x = packed kind first second bit in
    let one : x / 65536 ≡ first + second * 65536 + bit * 4294967296 = omega arith in
    let two : x / 4294967296 ≡ second + bit * 65536 = omega arith in
    let k : x % 65536 ≡ kind = omega arith in
    let f : x / 65536 % 65536 ≡ first = ap (λ n. n % 65536) one ∙ omega arith in
    let s : x / 4294967296 % 65536 ≡ second = ap (λ n. n % 65536) two ∙ omega arith in
    let b : x / 281474976710656 ≡ bit = omega arith in
    λ i. entry (k i) (f i) (s i) (b i)

-- what is written of a packed entry
pub packed-written : (l l' : List ℕ) (at x kind first second bit : ℕ) → x ≡ packed kind first second bit → kind < 65536 → first < 65536
    → second < 65536 → l' ≡ overlay l at (words (unpacked x ∷ [])) → l' ≡ overlay l at (words (entry kind first second bit ∷ []))
packed-written l l' at x kind first second bit e hk hf hs h =
    h ∙ ap (λ (y : Entry). overlay l at (words (y ∷ []))) (ap unpacked e ∙ entry-packed kind first second bit hk hf hs)

-- the log after entries, and after more behind them
pub log_then : (es fs : List Entry) (e f : ℕ) (l l1 l2 : List ℕ) → e + length es ≡ f → entry_words * f ≤ length l
    → l1 ≡ overlay l (entry_words * e) (words es) → l2 ≡ overlay l1 (entry_words * f) (words fs)
    → l2 ≡ overlay l (entry_words * e) (words (es ++ fs))
log_then es fs e f l l1 l2 h long p q =
    let at : entry_words * f ≡ entry_words * e + length (words es) = omega (arith, length-words es) in
    q ∙ rw (p, at, words_append es fs) (overlay_then l (entry_words * e) (words es) (words fs) (omega arith))
