-- `cmd_show::put_setting` meets its contract.
-- Assumes nothing.
use native.Mathlib.Omega.{arith}
use Rattle.cmd_show.proofs.Showing.{places-line, setting-line, setting_put}
use Rattle.cmd_show.proofs.put_setting.Goals as goal

pub put_number-a-requires : goal.put_number-a-requires
put_number-a-requires c = omega (arith, places-line c.args.setting.now.places c.args.setting.now.few)

pub put_setting-b-requires : goal.put_setting-b-requires
put_setting-b-requires c =
    omega (arith, c.put_number-a.ensures.place, c.put_number-a.auto, places-line c.args.setting.now.places c.args.setting.now.few, setting-line c.args.setting.now.bits.now (omega (arith, c.args.setting.now.short, c.args.setting.now.long)))

pub put_rest-requires : goal.put_rest-requires
put_rest-requires c =
    omega (arith, c.put_number-a.ensures.place, c.put_setting-b.ensures.place, c.put_number-a.auto, c.put_setting-b.auto, places-line c.args.setting.now.places c.args.setting.now.few, setting-line c.args.setting.now.bits.now (omega (arith, c.args.setting.now.short, c.args.setting.now.long)))

pub returns : goal.returns
returns c =
    setting_put c.args.setting.now.places c.args.setting.now.bits.now c.args.setting.now.few (omega (arith, c.args.setting.now.short, c.args.setting.now.long)) (omega arith) c.put_number-a.ensures c.put_setting-b.ensures c.put_rest.ensures
