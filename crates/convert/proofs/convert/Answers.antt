-- One question after the other, then the order that the setting carries, and its setting in the other wiring.
-- Assumes nothing.
use native.Mathlib.Omega.{arith}
use mathlib.Core.Path.{refl, sym, ◌∙◌}
use Prim.Native.Nat.{ℕ}
use lib.ListN.{replicate, length-replicate}
use lib.Seq.{length-take-le}
use Rattle.bits.proofs.Bytes.{bits_all}
use Rattle.questions.proofs.Lists.{first_no_lem}
use Rattle.questions.proofs.Asked.{few_yes, few_no, count_yes, count_no, bits_no}
use Rattle.wirings.proofs.Halves.{lawful}
use Rattle.setting_order.proofs.Front.{order_room_lem}
use Rattle.convert.specs.Calls.{convert_questions}
use Rattle.convert.proofs.Asked.{yes_all, refused, taken, settable, set-across}
use Rattle.convert.proofs.convert.Goals as goal

pub returns-then-n-gt-MOST_PLACES : goal.returns-then-n-gt-MOST_PLACES
unfolding convert_questions
returns-then-n-gt-MOST_PLACES c = let a = c.args in
    let no = few_no a.n c.if-n-gt-MOST_PLACES.true in
    rw c.of.ensures
    (refused a.n a.given.now a.out.now a.from (first_no_lem 0 (convert_questions a.n a.given.now a.out.now) no))

pub returns-then-given-due : goal.returns-then-given-due
unfolding convert_questions
returns-then-given-due c = let a = c.args in
    let few = few_yes a.n c.if-n-gt-MOST_PLACES.false in
    let no = count_no a.n a.given.now (λ e. c.if-given-due.true (e ∙ sym c.switches-due.ensures.0)) in
    rw c.of-then-given-due.ensures
    (refused a.n a.given.now a.out.now a.from (first_no_lem 1 (convert_questions a.n a.given.now a.out.now) (few, no)))

pub returns-then-out-due : goal.returns-then-out-due
unfolding convert_questions
returns-then-out-due c = let a = c.args in
    let few = few_yes a.n c.if-n-gt-MOST_PLACES.false in
    let count = count_yes a.n a.given.now (c.if-given-due.false ∙ c.switches-due.ensures.0) in
    let no = count_no a.n a.out.now (λ e. c.if-out-due.true (e ∙ sym c.switches-due.ensures.0)) in
    rw c.of-then-out-due.ensures
    (refused a.n a.given.now a.out.now a.from (first_no_lem 2 (convert_questions a.n a.given.now a.out.now) (few, (count, no))))

pub returns-then-bad-due : goal.returns-then-bad-due
unfolding convert_questions
returns-then-bad-due c = let a = c.args in
    let few = few_yes a.n c.if-n-gt-MOST_PLACES.false in
    let given = count_yes a.n a.given.now (c.if-given-due.false ∙ c.switches-due.ensures.0) in
    let out = count_yes a.n a.out.now (c.if-out-due.false ∙ c.switches-due.ensures.0) in
    let no = bits_no a.given.now (λ e. c.if-bad-due.true (c.first_bad_bit-bad.ensures ∙ e ∙ c.if-given-due.false)) in
    rw (c.at.ensures, c.first_bad_bit-bad.ensures)
    (refused a.n a.given.now a.out.now a.from (first_no_lem 3 (convert_questions a.n a.given.now a.out.now) (few, (given, (out, no)))))

pub order_of_setting_in-requires : goal.order_of_setting_in-requires
order_of_setting_in-requires c = let a = c.args in (
  c.if-n-gt-MOST_PLACES.false,
  omega (arith, c.switches-due.ensures),
  c.if-given-due.false ∙ c.switches-due.ensures.0,
  bits_all a.given.now (sym c.first_bad_bit-bad.ensures ∙ c.if-bad-due.false ∙ sym c.if-given-due.false),
)

pub slice_bounds-order-end : goal.slice_bounds-order-end
slice_bounds-order-end c = let a = c.args in
    order_room_lem (lawful a.from) a.n a.given.now (replicate {A = ℕ} 1024 0) c.order_of_setting_in.ensures
    (omega (arith, c.if-n-gt-MOST_PLACES.false, length-replicate {A = ℕ} 1024 0))

pub slice_bounds-setting_of_order_in-end : goal.slice_bounds-setting_of_order_in-end
slice_bounds-setting_of_order_in-end c = let a = c.args in
    sym (length-take-le _ _
    (order_room_lem (lawful a.from) a.n a.given.now (replicate {A = ℕ} 1024 0) c.order_of_setting_in.ensures
    (omega (arith, c.if-n-gt-MOST_PLACES.false, length-replicate {A = ℕ} 1024 0))))

pub setting_of_order_in-requires : goal.setting_of_order_in-requires
setting_of_order_in-requires c = let a = c.args in
    settable a.from a.n a.given.now (replicate {A = ℕ} 1024 0) c.order_of_setting_in.ensures a.out.now
    c.if-n-gt-MOST_PLACES.false (c.if-out-due.false ∙ c.switches-due.ensures.0)

pub returns : goal.returns
returns c = let a = c.args in
    taken a.n a.given.now a.out.now a.from
    (yes_all a.n a.given.now a.out.now c.if-n-gt-MOST_PLACES.false (c.if-given-due.false ∙ c.switches-due.ensures.0)
    (c.if-out-due.false ∙ c.switches-due.ensures.0)
    (sym c.first_bad_bit-bad.ensures ∙ c.if-bad-due.false ∙ sym c.if-given-due.false))
    refl c.setting_of_order_in.auto.bits
    (set-across a.from a.n a.given.now (replicate {A = ℕ} 1024 0) c.order_of_setting_in.ensures
    c.other_wiring.ensures c.setting_of_order_in.ensures.1)
