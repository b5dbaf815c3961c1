-- `record_entries::identity` meets its contract.
-- Assumes nothing.
use mathlib.Core.Path.{◌≡◌, sym, ap, ◌∙◌}
use mathlib.Core.List.{List, ◌++◌}
use Prim.Native.Nat.{ℕ}
use native.Mathlib.Omega.{arith}
use lib.ListN.{length, drop, replicate}
use lib.Seq.{ext_get_or, length-take-le}
use Rattle.permutation.specs.Permutations.{identity}
use Rattle.permutation.proofs.Laws.{identity-at, identity-length}
use Rattle.record_entries.proofs.Entries.{over_zeros}
use Rattle.record_entries.proofs.identity.Goals as goal

pub returns : goal.returns
returns c = let n = c.args.n in
    let long : length c.loop-i.entry-items ≡ n = c.loop-i.auto.entry-items ∙ length-take-le n (replicate 1024 0) (omega arith) in
    let front : c.loop-i.entry-items ≡ identity n =
    ext_get_or 0 c.loop-i.entry-items (identity n) (long ∙ sym (identity-length n))
    (λ j l. c.loop-i.invariant j (omega arith) ∙ sym (identity-at n j (omega arith))) in
    ap (λ (l : List ℕ). l ++ drop n (replicate 1024 0)) front ∙ over_zeros n (identity n) (identity-length n)
