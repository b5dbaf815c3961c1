-- `cmd_settings::settings_text` meets its contract.
-- Assumes nothing.
use native.Mathlib.Omega.{arith}
use mathlib.Core.Path.{sym}
use lib.Seq.{length-take-le}
use lib.ListN.{length-take, take}
use Rattle.counts.proofs.Most.{entries_few}
use Rattle.cmd_text.proofs.Lines.{refused_fits}
use Rattle.cmd_settings.proofs.Printing.{lines_fit, prints, prints_refusal, places_few_lem, bits_there, entries_are, prints_lines}
use Rattle.cmd_settings.proofs.settings_text.Goals as goal

pub switches-w-requires : goal.switches-w-requires
switches-w-requires c = places_few_lem _ _ _ c.in-Ok.ensures

pub slice_bounds-bits-end : goal.slice_bounds-bits-end
slice_bounds-bits-end c = bits_there _ _ _ c.in-Ok.ensures c.switches-w.ensures.0

pub slice_bounds-put_lines-end-in-Ok : goal.slice_bounds-put_lines-end-in-Ok
slice_bounds-put_lines-end-in-Ok c = sym (length-take-le _ c.order_setting.new.bits (bits_there _ _ _ c.in-Ok.ensures c.switches-w.ensures.0))

pub put_lines-requires : goal.put_lines-requires
put_lines-requires c = let set = c.in-Ok.set in
    let bits = c.order_setting.new.bits in
    let w = c.switches-w in
    let few = places_few_lem _ _ _ c.in-Ok.ensures in
    omega (
      arith,
      lines_fit set.places (take w.result bits) set.entries few
          (omega (arith, length-take w.result bits, w.ensures.1))
          (omega (arith, entries_are _ _ _ c.in-Ok.ensures, entries_few set.places few)),
      c.well_formed,
    )

pub put_refusal-requires : goal.put_refusal-requires
put_refusal-requires c = rw c.into.ensures (omega (arith, refused_fits c.in-Err.refused (omega arith), c.well_formed))

pub returns-in-Ok : goal.returns-in-Ok
returns-in-Ok c = prints _ (prints_lines _ _ _ c.in-Ok.ensures c.switches-w.ensures.0) c.put_lines.ensures

pub returns-in-Err : goal.returns-in-Err
returns-in-Err c = let P = rw c.into.ensures at c.put_refusal.ensures in prints _ (prints_refusal _ _ _ c.in-Err.ensures) P
