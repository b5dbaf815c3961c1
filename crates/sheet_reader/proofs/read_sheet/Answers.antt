-- `sheet_reader::read_sheet` meets its contract.
-- Assumes nothing.
use native.Mathlib.Omega.{arith}
use mathlib.Core.Path.{◌≡◌, refl, ap, ◌∙◌}
use lib.ListN.{length, take}
use lib.Seq.{length-take-le}
use Rattle.answers.specs.Answers.{accepted}
use Rattle.answers.specs.Buffers.{overlay}
use Rattle.std.proofs.lemmas.Result.{err_from_is_err_and}
use Rattle.sheets.specs.Sheet.{numbers_for}
use Rattle.sheets.proofs.Calls.{head_stops, head_few, head_fits, body_stops, read_passes, read_count, read_bits, read_refused, read_accepted}
use Rattle.sheet_reader.proofs.read_sheet.Goals as goal

pub returns-in_err-head : goal.returns-in_err-head
returns-in_err-head c = let p = err_from_is_err_and c.from_residual.result c.from_residual.ensures.1 in
    rw (p.1, p.2) (read_refused _ _ (head_stops _ _ _ c.in_err-head.ensures) refl)

pub switches-w-requires : goal.switches-w-requires
switches-w-requires c = head_few _ _ c.in_ok-head.ensures

pub returns-in_err-k : goal.returns-in_err-k
returns-in_err-k c = let p = err_from_is_err_and c.from_residual-in_err-k.result c.from_residual-in_err-k.ensures.1 in
    rw (p.1, p.2) (read_refused _ _ (body_stops _ _ c.in_ok-head.ensures c.switches-w.ensures.0 _ c.in_err-k.ensures) refl)

pub write_bits-requires : goal.write_bits-requires
write_bits-requires c = let w = c.switches-w.ensures in
    let k : c.in_ok-k.k ≡ numbers_for c.switches-w.result = c.in_ok-k.ensures.answer.1 in
    let long : length (take c.in_ok-k.k c.read_body.new.values) ≡ c.in_ok-k.k = length-take-le _ _ (omega (arith, k, w.1, c.read_body.auto.values)) in
    (omega (arith, w.0, head_fits _ _ c.in_ok-head.ensures), omega (arith, long, k), w.1)

pub returns : goal.returns
returns c = let H = c.in_ok-head.ensures in
    let w = c.switches-w.ensures.0 in
    let B = c.in_ok-k.ensures in
    read_accepted _ _ (read_passes _ _ H w B) (ap accepted (read_count _ _ H))
    (c.write_bits.ensures ∙ ap (overlay c.args.bits.now 0) (read_bits _ _ H w B))
