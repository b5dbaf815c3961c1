-- `sheet_writer::fourteen` meets its contract.
-- Assumes nothing.
use native.Mathlib.Omega.{arith}
use mathlib.Core.Path.{◌≡◌, sym, ap, ◌∙◌}
use mathlib.Core.List.{[], ◌∷◌, ◌++◌}
use Prim.Native.Nat.{◌+◌, ◌*◌}
use lib.ListN.{length}
use Rattle.std.proofs.lemmas.List.{length_push, length-reverse}
use Rattle.std.proofs.lemmas.Iterator.Adapters.{YieldsList-from_rev_slice}
use Rattle.std.proofs.lemmas.Iterator.Consumers.{YieldsList-turn, YieldsList-end}
use Rattle.sheet_writer.proofs.Writing.{last_number, last_none, last_more, last_fits, last_all}
use Rattle.sheet_writer.proofs.fourteen.Goals as goal

pub loop-bit-init : goal.loop-bit-init
loop-bit-init c = last_none c.args.bits.now

pub overflow_mul-number : goal.overflow_mul-number
overflow_mul-number c =
    let t = YieldsList-turn (YieldsList-from_rev_slice c.args.bits.now cc) c.loop-bit.yielded _ c.loop-bit.yielded_by _ _ c.in-Some.bit c.in-Some.is c.next.ensures.steps in
    let k = length c.loop-bit.yielded in
    omega (arith, c.loop-bit.invariant, last_fits c.args.bits.now k (omega (arith, t.0, length-reverse c.args.bits.now)) c.requires.0 c.requires.1)

pub overflow_add-number : goal.overflow_add-number
overflow_add-number c =
    let t = YieldsList-turn (YieldsList-from_rev_slice c.args.bits.now cc) c.loop-bit.yielded _ c.loop-bit.yielded_by _ _ c.in-Some.bit c.in-Some.is c.next.ensures.steps in
    let k = length c.loop-bit.yielded in
    let more = last_fits c.args.bits.now (k + 1) (omega (arith, t.0, length-reverse c.args.bits.now)) c.requires.0 c.requires.1 in
    omega (arith, c.loop-bit.invariant, more, last_more c.args.bits.now k c.in-Some.bit.now t, c.from.ensures)

pub loop-bit-preserved : goal.loop-bit-preserved
loop-bit-preserved c =
    let t = YieldsList-turn (YieldsList-from_rev_slice c.args.bits.now cc) c.loop-bit.yielded _ c.loop-bit.yielded_by _ _ c.in-Some.bit c.in-Some.is c.next.ensures.steps in
    let k = length c.loop-bit.yielded in
    let one : length (c.loop-bit.yielded ++ c.in-Some.bit ∷ []) ≡ k + 1 = length_push c.loop-bit.yielded c.in-Some.bit in
    let more : c.loop-bit.number * 2 + c.from.result ≡ last_number c.args.bits.now (k + 1) =
    omega (arith, c.loop-bit.invariant, last_more c.args.bits.now k c.in-Some.bit.now t, c.from.ensures)
    in
    more ∙ ap (last_number c.args.bits.now) (sym one)

pub returns : goal.returns
returns c =
    let t = YieldsList-end (YieldsList-from_rev_slice c.args.bits.now cc) c.loop-bit.yielded _ c.loop-bit.yielded_by _ _ c.in-None.is c.next.ensures.steps in
    let e : c.loop-bit.number ≡ last_number c.args.bits.now (length c.loop-bit.yielded) = c.loop-bit.invariant in
    e ∙ last_all c.args.bits.now (length c.loop-bit.yielded) t.1
