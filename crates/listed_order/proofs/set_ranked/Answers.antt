-- The order, which is one, and then the setter.
-- Assumes nothing.
use mathlib.Core.Path.{◌≡◌, sym, ap, ◌∙◌}
use native.Mathlib.Omega.{arith}
use lib.ListN.{length}
use Rattle.counts.specs.Counts.{W}
use Rattle.orders_listed.specs.Ranks.{order_at}
use Rattle.orders_listed.proofs.OrderAt.{length_order_at, order_permutation}
use Rattle.listed_order.proofs.set_ranked.Goals as goal

pub set_order-requires : goal.set_order-requires
set_order-requires c = let w = c.write_order in
    let n = length c.args.order.now in
    let e : w.new.order ≡ order_at n c.args.r = w.ensures in
    let l : length w.new.order ≡ n = ap length e ∙ length_order_at n c.args.r in (
      omega (arith, l, c.requires.0),
      rw (l, e) (order_permutation n c.args.r c.requires.1),
      c.requires.2 ∙ ap W (sym l),
      c.requires.3,
      rw l c.requires.4,
    )
