-- One entry, and the order of the others; the number of places falls at each call.
-- Assumes nothing.
use mathlib.Core.Path.{◌≡◌, ap, ◌∙◌}
use Prim.Native.Nat.{◌-◌}
use native.Mathlib.Omega.{arith}
use lib.ListN.{length}
use Rattle.orders_listed.specs.Ranks.{factorial}
use Rattle.orders_listed.proofs.OrderAt.{length_order_at}
use Rattle.orders_listed.proofs.Writing.{Begun, more, starts, used, left_below, first_small, length-others, continued, below, finished, order_none, lent}
use Rattle.orders_listed.proofs.+write_order.Goals as goal

pub returns-then-n-eq0 : goal.returns-then-n-eq0
returns-then-n-eq0 t c = let e : length c.args.order.now ≡ 0 = omega (arith, c.if-n-eq0.true) in
    order_none c.args.order.now c.args.r e

pub count_orders-f-requires : goal.count_orders-f-requires
count_orders-f-requires t c = omega (arith, c.requires.0)

pub first_digit-d-requires : goal.first_digit-d-requires
first_digit-d-requires t c = let n = length c.args.order.now in
    let f : c.count_orders-f.result ≡ factorial (n - 1) = omega (arith, c.count_orders-f.ensures.0) in
    (c.requires.0, c.count_orders-f.ensures.1, rw f (more n c.args.r (omega arith) c.requires.1))

pub overflow_mul-d : goal.overflow_mul-d
overflow_mul-d t c =
    let B : Begun c.args.order.now c.args.r c.count_orders-f.result c.first_digit-d.result =
    record {
      some = omega (arith, c.if-n-eq0.false);
      ranked = c.requires.1;
      factor = omega (arith, c.count_orders-f.ensures.0);
      first = c.first_digit-d.ensures;
    }
    in
    omega (arith, used B)

pub overflow_sub-r : goal.overflow_sub-r
overflow_sub-r t c =
    let B : Begun c.args.order.now c.args.r c.count_orders-f.result c.first_digit-d.result =
    record {
      some = omega (arith, c.if-n-eq0.false);
      ranked = c.requires.1;
      factor = omega (arith, c.count_orders-f.ensures.0);
      first = c.first_digit-d.ensures;
    }
    in
    used B

pub slice_bounds-write_order-count : goal.slice_bounds-write_order-count
slice_bounds-write_order-count t c =
    let B : Begun c.args.order.now c.args.r c.count_orders-f.result c.first_digit-d.result =
    record {
      some = omega (arith, c.if-n-eq0.false);
      ranked = c.requires.1;
      factor = omega (arith, c.count_orders-f.ensures.0);
      first = c.first_digit-d.ensures;
    }
    in
    rw (starts B) (omega arith)

pub write_order-requires : goal.write_order-requires
write_order-requires t c = let B : Begun c.args.order.now c.args.r c.count_orders-f.result c.first_digit-d.result =
    record {
      some = omega (arith, c.if-n-eq0.false);
      ranked = c.requires.1;
      factor = omega (arith, c.count_orders-f.ensures.0);
      first = c.first_digit-d.ensures;
    }
    in (
      omega (arith, length-others B, c.requires.0, B.some),
      (omega (arith, length-others B, c.requires.0), rw (length-others B) (left_below B)),
    )

pub slice_bounds-make_way-count : goal.slice_bounds-make_way-count
slice_bounds-make_way-count t c =
    let B : Begun c.args.order.now c.args.r c.count_orders-f.result c.first_digit-d.result =
    record {
      some = omega (arith, c.if-n-eq0.false);
      ranked = c.requires.1;
      factor = omega (arith, c.count_orders-f.ensures.0);
      first = c.first_digit-d.ensures;
    }
    in
    rw (continued B c.write_order.ensures) (omega arith)

pub make_way-requires : goal.make_way-requires
make_way-requires t c = let B : Begun c.args.order.now c.args.r c.count_orders-f.result c.first_digit-d.result =
    record {
      some = omega (arith, c.if-n-eq0.false);
      ranked = c.requires.1;
      factor = omega (arith, c.count_orders-f.ensures.0);
      first = c.first_digit-d.ensures;
    }
    in
    let ys = c.write_order in (
      omega (arith, first_small B, c.requires.0),
      rw (continued B ys.ensures, lent c.first_digit-d.result ys.new.order) (below B ys.ensures c.requires.0),
    )

pub returns : goal.returns
returns t c = let B : Begun c.args.order.now c.args.r c.count_orders-f.result c.first_digit-d.result =
    record {
      some = omega (arith, c.if-n-eq0.false);
      ranked = c.requires.1;
      factor = omega (arith, c.count_orders-f.ensures.0);
      first = c.first_digit-d.ensures;
    }
    in
    finished B c.write_order.ensures c.make_way.ensures

pub shape_of-order : goal.shape_of-order
shape_of-order t c = ap length (returns t c) ∙ length_order_at _ _
