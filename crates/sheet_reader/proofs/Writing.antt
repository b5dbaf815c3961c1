-- What the loop of `write_bits` keeps.
-- Assumes nothing.
use mathlib.Core.Path.{◌≡◌, sym, ap, ◌∙◌}
use mathlib.Core.List.{List, [], ◌∷◌, ◌++◌}
use Prim.Native.Nat.{ℕ, ◌+◌, ◌≤◌, ◌<◌}
use native.Mathlib.Numerals.{add-one}
use native.Mathlib.Omega.{arith}
use lib.ListN.{length, get_or, take, drop, set}
use lib.Seq.{take-suc, take-suc-set, take_all, length-take-le}
use Rattle.answers.specs.Buffers.{overlay}
use Rattle.answers.proofs.Buffers.{overlay-front}

-- the first i of the bits are there: one more
pub written_more :
    (bits out : List ℕ) (i x : ℕ)
    → i < length out
    → i < length bits
    → x ≡ get_or bits i 0
    → take i out ≡ take i bits
    → take (i + 1) (set out i x) ≡ take (i + 1) bits
written_more bits out i x l h e R =
    rw add-one (take-suc-set out i x l ∙ rw R (ap (λ y. take i bits ++ (y ∷ [])) e) ∙ sym (take-suc bits i 0 h))

-- all w are there, in front of what stood behind them
pub written_all :
    (bits before out : List ℕ) (w : ℕ)
    → length out ≡ w
    → w ≤ length bits
    → take w out ≡ take w bits
    → out ++ drop w before ≡ overlay before 0 (take w bits)
written_all bits before out w l h R =
    let whole : out ≡ take w bits = sym (take_all w out (omega arith)) ∙ R in
    let long : w ≡ length (take w bits) = sym (length-take-le w bits h) in
    ap (λ o. o ++ drop w before) whole ∙ ap (λ n. take w bits ++ drop n before) long ∙ sym (overlay-front before (take w bits))
