-- `cmd_picture::put_columns` meets its contract.
-- Assumes nothing.
use mathlib.Core.Path.{◌≡◌, sym, ◌∙◌}
use mathlib.Core.List.{List}
use Prim.Native.Nat.{ℕ}
use native.Mathlib.Omega.{arith}
use lib.ListN.{length, get_or}
use Rattle.network.specs.Log.{entry_at}
use Rattle.permutation.proofs.Tables.{length-tabulate, tabulate-at}
use Rattle.cmd_text.proofs.Lines.{lay_starts, lay_more, lay_ends}
use Rattle.cmd_picture.specs.Picture.{mark}
use Rattle.cmd_picture.specs.Inner.{mark_in, columns_in}
use Rattle.cmd_picture.proofs.put_columns.Goals as goal

-- one column a switch
long : (log bits : List ℕ) (place : ℕ) → length (columns_in log bits place) ≡ length bits
long log bits place = length-tabulate (mark_in log bits place) (length bits)

-- the mark of a switch from the two places that were read
marked : (log bits : List ℕ) (place e lower upper : ℕ) → lower ≡ (entry_at log e).first → upper ≡ (entry_at log e).second
    → mark lower upper (get_or bits e 0) place ≡ mark_in log bits place e
marked log bits place e lower upper p q = rw (p, q)

pub loop-e-init : goal.loop-e-init
loop-e-init c = lay_starts _ _ _

pub bounds-out-at : goal.bounds-out-at
bounds-out-at c = omega (arith, c.loop-e-test.true, c.loop-e.invariant.same, long c.args.log.now c.args.bits.now c.args.place, c.requires)

pub loop-e-preserved : goal.loop-e-preserved
loop-e-preserved c = let log = c.args.log.now in
    let bits = c.args.bits.now in
    let place = c.args.place in
    lay_more _ _ _ _ _ c.loop-e.invariant _ (omega (arith, c.loop-e-test.true, long log bits place)) c.requires.1
    (c.mark_at.ensures
    ∙ marked log bits place c.loop-e.e _ _ c.first_of-lower.ensures c.second_of-upper.ensures
    ∙ sym (tabulate-at (mark_in log bits place) (length bits) c.loop-e.e c.loop-e-test.true))

pub returns : goal.returns
returns c =
    let same = long c.args.log.now c.args.bits.now c.args.place in
    lay_ends _ _ _ _ _ c.loop-e.invariant (omega (arith, c.loop-e-test.false, same)) (omega (arith, same))
