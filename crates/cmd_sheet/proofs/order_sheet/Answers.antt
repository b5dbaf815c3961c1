-- `cmd_sheet::order_sheet` meets its contract.
-- Assumes nothing.
use native.Mathlib.Omega.{arith}
use mathlib.Core.Path.{refl, sym}
use mathlib.Core.List.{[]}
use lib.Seq.{length-take-le}
use Rattle.std.proofs.lemmas.Result.{err_from_is_err_and}
use Rattle.answers.proofs.Results.{number_above}
use Rattle.cmd_read_order.proofs.Outcomes.{report_outcome}
use Rattle.cmd_sheet.proofs.Sheets.{sheet_refused, places_few_lem, bits_there, sheet_written}
use borrow.Author.Rules.{rules}
use Rattle.cmd_sheet.proofs.order_sheet.Goals as goal

pub returns-in_err-set : goal.returns-in_err-set
returns-in_err-set c = let p = err_from_is_err_and c.from_residual.result c.from_residual.ensures.1 in
    rw (p.1, p.2)
    (sheet_refused _ _ _ (report_outcome _ _ c.in_err-set.ensures) (λ z. omega (arith, number_above c.in_err-set.field-0.0.reason, z)))

pub switches-w-requires : goal.switches-w-requires
switches-w-requires c = places_few_lem _ _ [] (report_outcome _ _ c.in_ok-set.ensures) refl

pub slice_bounds-bits-end : goal.slice_bounds-bits-end
slice_bounds-bits-end c = bits_there _ _ [] (report_outcome _ _ c.in_ok-set.ensures) refl c.switches-w.ensures.0

pub slice_bounds-write_sheet-end : goal.slice_bounds-write_sheet-end
slice_bounds-write_sheet-end c =
    sym (length-take-le _ _ (bits_there _ _ [] (report_outcome _ _ c.in_ok-set.ensures) refl c.switches-w.ensures.0))

pub returns : goal.returns
returns c = let w = c.switches-w.ensures in
    sheet_written _ _ c.args.out.now (report_outcome _ _ c.in_ok-set.ensures) refl w.0 w.1 (search rules) c.write_sheet.ensures
