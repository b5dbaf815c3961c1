-- One question after the other, then the order and the setter.
-- Assumes nothing.
use mathlib.Core.Path.{sym, ap, ◌∙◌}
use native.Mathlib.Omega.{arith}
use lib.Seq.{length-take-le}
use lib.ListN.{length}
use borrow.Author.Tests.{lt-ltb, le-ltb}
use Rattle.counts.specs.Counts.{W, E}
use Rattle.questions.proofs.Lists.{first_no_lem}
use Rattle.questions.proofs.Asked.{listable_yes, listable_no, room_yes, room_no, count_yes, count_no, log_no}
use Rattle.orders_listed.specs.Ranks.{factorial, order_at}
use Rattle.listed_order.specs.Calls.{ranked_questions}
use Rattle.listed_order.proofs.Asked.{refused, RankAsked, taken}
use Rattle.listed_order.proofs.ranked_order.Goals as goal

pub returns-then-n-gt6 : goal.returns-then-n-gt6
returns-then-n-gt6 c = let a = c.args in
    let no = listable_no a.n (omega (arith, c.if-n-gt6.true)) in
    rw c.of.ensures (refused a.n a.r a.order.now a.bits.now a.log.now (first_no_lem 0 (ranked_questions a.n a.r a.order.now a.bits.now a.log.now) no))

pub returns-then-orders-r : goal.returns-then-orders-r
returns-then-orders-r c = let a = c.args in
    let short = listable_yes a.n (omega (arith, c.if-n-gt6.false)) in
    let no = le-ltb a.r (factorial a.n) (omega (arith, c.if-orders-r.true, c.count_orders.ensures.0, c.from-orders.ensures)) in
    rw c.of-then-orders-r.ensures (refused a.n a.r a.order.now a.bits.now a.log.now (first_no_lem 1 (ranked_questions a.n a.r a.order.now a.bits.now a.log.now) (short, no)))

pub returns-then-order-n : goal.returns-then-order-n
returns-then-order-n c = let a = c.args in
    let short = listable_yes a.n (omega (arith, c.if-n-gt6.false)) in
    let below = lt-ltb a.r (factorial a.n) (omega (arith, c.if-orders-r.false, c.count_orders.ensures.0, c.from-orders.ensures)) in
    let no = room_no a.n (length a.order.now) (omega (arith, c.if-order-n.true)) in
    rw c.of-then-order-n.ensures (refused a.n a.r a.order.now a.bits.now a.log.now (first_no_lem 2 (ranked_questions a.n a.r a.order.now a.bits.now a.log.now) (short, (below, no))))

pub returns-then-bits-switches : goal.returns-then-bits-switches
returns-then-bits-switches c = let a = c.args in
    let short = listable_yes a.n (omega (arith, c.if-n-gt6.false)) in
    let below = lt-ltb a.r (factorial a.n) (omega (arith, c.if-orders-r.false, c.count_orders.ensures.0, c.from-orders.ensures)) in
    let room = room_yes a.n (length a.order.now) c.if-order-n.false in
    let no = count_no a.n a.bits.now (λ e. c.if-bits-switches.true (e ∙ sym c.switches.ensures.0)) in
    rw c.of-then-bits-switches.ensures (refused a.n a.r a.order.now a.bits.now a.log.now (first_no_lem 3 (ranked_questions a.n a.r a.order.now a.bits.now a.log.now) (short, (below, (room, no)))))

pub returns-then-log-entries : goal.returns-then-log-entries
returns-then-log-entries c = let a = c.args in
    let short = listable_yes a.n (omega (arith, c.if-n-gt6.false)) in
    let below = lt-ltb a.r (factorial a.n) (omega (arith, c.if-orders-r.false, c.count_orders.ensures.0, c.from-orders.ensures)) in
    let room = room_yes a.n (length a.order.now) c.if-order-n.false in
    let count = count_yes a.n a.bits.now (c.if-bits-switches.false ∙ c.switches.ensures.0) in
    let no = log_no (E a.n) (length a.log.now) (omega (arith, c.if-log-entries.true, c.entries.ensures.0)) in
    rw c.of-then-log-entries.ensures (refused a.n a.r a.order.now a.bits.now a.log.now (first_no_lem 4 (ranked_questions a.n a.r a.order.now a.bits.now a.log.now) (short, (below, (room, (count, no))))))

pub slice_bounds-set_ranked-end-2 : goal.slice_bounds-set_ranked-end-2
slice_bounds-set_ranked-end-2 c = sym (length-take-le _ _ c.if-order-n.false)

pub set_ranked-requires : goal.set_ranked-requires
set_ranked-requires c = let a = c.args in
    let Y : RankAsked a.n a.r a.order.now a.bits.now a.log.now =
    record {
      small = omega (arith, c.if-n-gt6.false);
      rank_below = omega (arith, c.if-orders-r.false, c.count_orders.ensures.0, c.from-orders.ensures);
      room = c.if-order-n.false;
      bit_count = c.if-bits-switches.false ∙ c.switches.ensures.0;
      log_room = omega (arith, c.if-log-entries.false, c.entries.ensures.0);
    } in
    let l = length-take-le a.n a.order.now Y.room in
    let few = c.switches.ensures in
    (omega (arith, l, Y.small), rw l Y.rank_below, Y.bit_count ∙ ap W (sym l), omega (arith, Y.bit_count, few), rw l Y.log_room)

pub returns : goal.returns
returns c = let a = c.args in
    let Y : RankAsked a.n a.r a.order.now a.bits.now a.log.now =
    record {
      small = omega (arith, c.if-n-gt6.false);
      rank_below = omega (arith, c.if-orders-r.false, c.count_orders.ensures.0, c.from-orders.ensures);
      room = c.if-order-n.false;
      bit_count = c.if-bits-switches.false ∙ c.switches.ensures.0;
      log_room = omega (arith, c.if-log-entries.false, c.entries.ensures.0);
    } in
    let l = length-take-le a.n a.order.now Y.room in
    let s = c.set_ranked in
    taken _ _ _ _ _ Y (s.ensures.0 ∙ ap (λ m. order_at m a.r) l) s.ensures.1 s.auto.bits
