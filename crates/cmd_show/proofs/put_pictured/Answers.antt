-- `cmd_show::put_pictured` meets its contract.
-- Assumes nothing.
use native.Mathlib.Omega.{arith}
use Rattle.answers.proofs.Putting.{put_none}
use Rattle.cmd_picture.proofs.Logged.{picture-length}
use Rattle.cmd_show.proofs.Spacing.{few_places, many_places, some_places}
use Rattle.cmd_show.proofs.put_pictured.Goals as goal
use Rattle.cmd_show.proofs.put_pictured.Goals.{then-setting-lt2-via-then-setting-lt2, then-setting-lt2-via-else-setting-lt2+then-setting-gt-MOST_PICTURED}

pub returns-then-setting-lt2 : goal.returns-then-setting-lt2
returns-then-setting-lt2 c = let n = c.args.setting.now.places in
    let bits = c.args.setting.now.bits.now in
    elim c.then-setting-lt2.branch [
      | then-setting-lt2-via-then-setting-lt2 w ↦ rw (few_places n bits w.if-setting-lt2.true) (put_none _ _)
      | then-setting-lt2-via-else-setting-lt2+then-setting-gt-MOST_PICTURED w ↦ rw (many_places n bits w.if-setting-lt2.false w.if-setting-gt-MOST_PICTURED.true) (put_none _ _)
    ]

pub put_picture-requires : goal.put_picture-requires
put_picture-requires c = let setting = c.args.setting.now in
    omega (arith, c.requires, picture-length setting.places setting.bits.now c.if-setting-gt-MOST_PICTURED.false setting.long)

pub returns : goal.returns
returns c = let setting = c.args.setting.now in
    rw (some_places setting.places setting.bits.now c.if-setting-lt2.false c.if-setting-gt-MOST_PICTURED.false) c.put_picture.ensures
