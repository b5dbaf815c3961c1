-- `cmd_picture::put_picture` meets its contract.
-- Assumes nothing.
use mathlib.Core.Path.{refl}
use Prim.Native.Nat.{◌*◌}
use native.Mathlib.Omega.{arith}
use lib.ListN.{take, replicate}
use lib.Seq.{length-take-le}
use Rattle.network.specs.Log.{entry_words}
use Rattle.cmd_picture.proofs.Switches.{are_bits}
use Rattle.cmd_picture.proofs.Logged.{picture_in, heading_room, rows_room, picture_put, log_room}
use Rattle.cmd_picture.proofs.put_picture.Goals as goal

pub put_heading-a-requires : goal.put_heading-a-requires
put_heading-a-requires c = let n = c.args.setting.now.places in
    let bits = c.args.setting.now.bits.now in
    let log = c.apply.new.log in
    let e = picture_in n bits (take n (replicate 16 0)) (replicate (entry_words * 49) 0) c.args.setting.now.few c.args.setting.now.long (are_bits _ c.args.setting.now.binary)
    (length-take-le n (replicate 16 0) (omega (arith, c.args.setting.now.few))) refl c.apply.ensures in
    heading_room n bits log e c.args.out.now c.args.at c.requires

pub put_rows-requires : goal.put_rows-requires
put_rows-requires c = let n = c.args.setting.now.places in
    let bits = c.args.setting.now.bits.now in
    let log = c.apply.new.log in
    let e = picture_in n bits (take n (replicate 16 0)) (replicate (entry_words * 49) 0) c.args.setting.now.few c.args.setting.now.long (are_bits _ c.args.setting.now.binary)
    (length-take-le n (replicate 16 0) (omega (arith, c.args.setting.now.few))) refl c.apply.ensures in (
      log_room n bits log c.args.setting.now.few c.args.setting.now.long c.apply.auto.log,
      rows_room n bits log e c.args.out.now c.args.at c.requires c.put_heading-a.ensures,
    )

pub returns : goal.returns
returns c = let n = c.args.setting.now.places in
    let bits = c.args.setting.now.bits.now in
    let log = c.apply.new.log in
    let e = picture_in n bits (take n (replicate 16 0)) (replicate (entry_words * 49) 0) c.args.setting.now.few c.args.setting.now.long (are_bits _ c.args.setting.now.binary)
    (length-take-le n (replicate 16 0) (omega (arith, c.args.setting.now.few))) refl c.apply.ensures in
    picture_put n bits log e c.args.out.now c.args.at c.requires c.put_heading-a.ensures
    c.put_rows.ensures
