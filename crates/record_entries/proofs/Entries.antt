-- When the entries of a record are those of a list.
-- Assumes nothing.
use mathlib.Core.Path.{◌≡◌, sym, ap, ◌∙◌}
use mathlib.Core.List.{List, ◌++◌}
use Prim.Native.Nat.{ℕ, ◌+◌, ◌-◌, ◌≤◌, ◌<◌}
use native.Mathlib.Omega.{arith}
use lib.ListN.{length, get_or, take, drop, replicate, length-drop, length-replicate, get_or-replicate, take-append-drop}
use lib.Seq.{ext_get_or, length-take-le, get_or-take, get_or-drop, take-append_seam}
use Rattle.std.proofs.lemmas.List.{drop-replicate}
use Rattle.record_entries.specs.Entries.{padded}

-- entries with zeros past n are a list's

pub is_padded : (n : ℕ) (e : List ℕ) → length e ≡ 1024 → n ≤ 1024 → ((v : ℕ) → n ≤ v → get_or e v 0 ≡ 0) → e ≡ padded (take n e)
is_padded n e s h z =
    let zeros : drop n e ≡ replicate (1024 - n) 0 =
    ext_get_or 0 (drop n e) (replicate (1024 - n) 0) (length-drop n e ∙ ap (λ k. k - n) s ∙ sym (length-replicate (1024 - n) 0))
    (λ i l. get_or-drop n e i 0 ∙ z (n + i) (omega arith) ∙ sym (get_or-replicate (1024 - n) i 0 0 (omega (arith, length-drop n e)))) in
    let whole : e ≡ take n e ++ replicate (1024 - n) 0 = sym (take-append-drop n e) ∙ ap (λ l. take n e ++ l) zeros in
    whole ∙ ap (λ k. take n e ++ replicate (1024 - k) 0) (sym (length-take-le n e (omega arith)))

-- the same, by the entries of the list that they should hold
pub is_padded_of : (n : ℕ) (e es : List ℕ) → length e ≡ 1024 → n ≤ 1024 → length es ≡ n → ((v : ℕ) → v < n → get_or e v 0 ≡ get_or es v 0)
    → ((v : ℕ) → n ≤ v → get_or e v 0 ≡ 0) → e ≡ padded es
is_padded_of n e es s h k t z =
    let long : length (take n e) ≡ n = length-take-le n e (omega arith) in
    is_padded n e s h z
    ∙ ap padded (ext_get_or 0 (take n e) es (long ∙ sym k) (λ v l. get_or-take n e v 0 (omega arith) ∙ t v (omega arith)))

-- a list over the front of entries that are all 0
pub over_zeros : (n : ℕ) (es : List ℕ) → length es ≡ n → es ++ drop n (replicate 1024 0) ≡ padded es
over_zeros n es e = ap (λ l. es ++ l) (drop-replicate n 1024 0 ∙ ap (λ k. replicate (1024 - k) 0) (sym e))

pub front_padded : (n : ℕ) (es : List ℕ) → length es ≡ n → take n (padded es) ≡ es
front_padded n es e = rw (← e) (take-append_seam es (replicate (1024 - length es) 0))
