-- One question after the other, then the setter.
-- Assumes nothing.
use native.Mathlib.Omega.{arith}
use mathlib.Core.Path.{◌≡◌, sym, ◌∙◌}
use Prim.Native.Nat.{◌≤◌}
use lib.ListN.{length}
use Rattle.counts.specs.Counts.{W, E}
use Rattle.permutation.proofs.Permutations.{passes_permutation}
use Rattle.wirings.specs.Nets.{wiring_of}
use Rattle.answers.proofs.Questions.{yes_each}
use Rattle.permutation.specs.Permutations.{first_bad_entry}
use Rattle.questions.proofs.Lists.{first_no_lem}
use Rattle.questions.proofs.Asked.{few_yes, few_no, count_yes, count_no, log_yes, log_no, order_yes, order_no}
use Rattle.control.specs.Calls.{set_questions}
use Rattle.control.proofs.Asked.{refused, taken}
use Rattle.control.proofs.control_bits_in.Goals as goal

pub returns-then-n-gt-MOST_PLACES : goal.returns-then-n-gt-MOST_PLACES
returns-then-n-gt-MOST_PLACES c = let a = c.args in
    let qs = set_questions a.order.now a.bits.now a.log.now in
    rw c.of.ensures
    (refused a.order.now a.bits.now a.log.now (wiring_of a.t) 1 0
    (first_no_lem 0 qs (few_no (length a.order.now) c.if-n-gt-MOST_PLACES.true)))

pub returns-then-bits-switches : goal.returns-then-bits-switches
returns-then-bits-switches c = let a = c.args in
    let e : length a.bits.now ≡ W (length a.order.now) → ⊥ = λ q. c.if-bits-switches.true (q ∙ sym c.switches.ensures.0) in
    let n = length a.order.now in
    let qs = set_questions a.order.now a.bits.now a.log.now in
    rw c.of-then-bits-switches.ensures
    (refused a.order.now a.bits.now a.log.now (wiring_of a.t) 4 0
    (first_no_lem 1 qs (few_yes n c.if-n-gt-MOST_PLACES.false, count_no n a.bits.now e)))

pub overflow_mul-entries : goal.overflow_mul-entries
overflow_mul-entries c = omega (arith, c.entries.ensures.1)

pub returns-then-log-entries : goal.returns-then-log-entries
returns-then-log-entries c = let a = c.args in
    let n = length a.order.now in
    let few = few_yes n c.if-n-gt-MOST_PLACES.false in
    let count = count_yes n a.bits.now (c.if-bits-switches.false ∙ c.switches.ensures.0) in
    let short = log_no (E n) (length a.log.now) (omega (arith, c.if-log-entries.true, c.entries.ensures.0)) in
    rw c.of-then-log-entries.ensures
    (refused a.order.now a.bits.now a.log.now (wiring_of a.t) 5 0
    (first_no_lem 2 (set_questions a.order.now a.bits.now a.log.now) (few, (count, short))))

pub returns-then-bad-n : goal.returns-then-bad-n
returns-then-bad-n c = let f = c.first_bad_entry-bad.ensures in
    let a = c.args in
    let n = length a.order.now in
    let few = few_yes n c.if-n-gt-MOST_PLACES.false in
    let count = count_yes n a.bits.now (c.if-bits-switches.false ∙ c.switches.ensures.0) in
    let room = log_yes (E n) (length a.log.now) (omega (arith, c.if-log-entries.false, c.entries.ensures.0)) in
    let bad = order_no a.order.now (λ e. c.if-bad-n.true (f ∙ e)) in
    rw (c.at.ensures, f)
    (refused a.order.now a.bits.now a.log.now (wiring_of a.t) 6 (first_bad_entry a.order.now)
    (first_no_lem 3 (set_questions a.order.now a.bits.now a.log.now) (few, (count, (room, bad)))))

pub set_order_in-requires : goal.set_order_in-requires
set_order_in-requires c = let a = c.args in
    let n : length a.order.now ≤ 1024 = c.if-n-gt-MOST_PLACES.false in
    let b : length a.bits.now ≡ W (length a.order.now) = c.if-bits-switches.false ∙ c.switches.ensures.0 in (
      n,
      passes_permutation a.order.now (sym c.first_bad_entry-bad.ensures ∙ c.if-bad-n.false),
      b,
      omega (arith, b, c.switches.ensures),
      omega (arith, c.if-log-entries.false, c.entries.ensures.0),
    )

pub returns : goal.returns
returns c = let s = c.set_order_in in
    let a = c.args in
    let n = length a.order.now in
    let few = few_yes n c.if-n-gt-MOST_PLACES.false in
    let count = count_yes n a.bits.now (c.if-bits-switches.false ∙ c.switches.ensures.0) in
    let room = log_yes (E n) (length a.log.now) (omega (arith, c.if-log-entries.false, c.entries.ensures.0)) in
    let good = order_yes a.order.now (sym c.first_bad_entry-bad.ensures ∙ c.if-bad-n.false) in
    taken a.order.now a.bits.now a.log.now (wiring_of a.t) s.result
    (yes_each (set_questions a.order.now a.bits.now a.log.now) (few, (count, (room, (good, tt)))))
    s.ensures s.auto.bits
