-- `cmd_show::put_rest` meets its contract.
-- Assumes nothing.
use mathlib.Core.Path.{sym}
use native.Mathlib.Omega.{arith}
use lib.ListN.{replicate, length-take}
use lib.Seq.{length-take-le}
use Rattle.network.proofs.Paper.{paper_lawful}
use Rattle.setting_order.proofs.Front.{order_room_lem, order-front}
use Rattle.cmd_picture.proofs.Switches.{are_bits}
use Rattle.cmd_show.proofs.Showing.{rest_put}
use Rattle.cmd_show.proofs.put_rest.Goals as goal

pub order_of_setting-requires : goal.order_of_setting-requires
order_of_setting-requires c =
    (c.args.setting.now.few, c.args.setting.now.short, c.args.setting.now.long, are_bits _ c.args.setting.now.binary)

pub slice_bounds-order-end : goal.slice_bounds-order-end
slice_bounds-order-end c = order_room_lem paper_lawful _ _ (replicate 1024 0) c.order_of_setting.ensures
    (omega (arith, c.args.setting.now.few))

pub slice_bounds-put_order-end : goal.slice_bounds-put_order-end
slice_bounds-put_order-end c = sym (length-take-le _ _
    (order_room_lem paper_lawful _ _ (replicate 1024 0) c.order_of_setting.ensures
    (omega (arith, c.args.setting.now.few))))

pub put_order-a-requires : goal.put_order-a-requires
put_order-a-requires c = omega (arith, c.requires, length-take c.args.setting.now.places c.order_of_setting.new.order)

pub put_pictured-requires : goal.put_pictured-requires
put_pictured-requires c =
    omega (arith, c.args.setting.now.few, c.requires, c.put_order-a.ensures.1, c.put_order-a.auto, length-take c.args.setting.now.places c.order_of_setting.new.order)

pub returns : goal.returns
returns c = rest_put c.args.setting.now.places c.args.setting.now.bits.now _
    (order-front paper_lawful c.args.setting.now.places c.args.setting.now.bits.now (replicate 1024 0) c.order_of_setting.ensures)
    (omega (arith, c.args.setting.now.few, c.requires, length-take c.args.setting.now.places c.order_of_setting.new.order)) c.put_order-a.ensures
    c.put_pictured.ensures
