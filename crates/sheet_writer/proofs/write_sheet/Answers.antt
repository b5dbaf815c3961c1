-- `sheet_writer::write_sheet` meets its contract.
-- Assumes nothing.
use Rattle.answers.proofs.Putting.{put_within, put_length}
use Rattle.sheets.proofs.Calls.{too_large, uneven, no_bit, too_short, write_passes, write_refused, write_accepted}
use mathlib.Core.List.{◌++◌}
use lib.ListN.{drop}
use lib.Seq.{length-take-le}
use native.Mathlib.Omega.{arith}
use mathlib.Core.Path.{◌≡◌, sym, ap, ◌∙◌}
use Rattle.std.specs.Prelude.{Err}
use Rattle.answers.specs.declared.Refusal.{Refusal}
use Rattle.answers.specs.Answers.{accepted, answer_from}
use Rattle.bits.proofs.Bytes.{bits_all}
use Rattle.sheet_writer.proofs.Writing.{sheet_copied}
use Rattle.sheet_writer.proofs.write_sheet.Goals as goal

told : {r r' : Refusal} → r ≡ r' → answer_from (Err r) ≡ answer_from (Err r')
told e = ap (λ r. answer_from (Err r)) e

pub returns-then-n-gt-MOST_PLACES : goal.returns-then-n-gt-MOST_PLACES
returns-then-n-gt-MOST_PLACES c = write_refused _ _ _ (too_large _ _ _ c.if-n-gt-MOST_PLACES.true) (told c.of.ensures)

pub returns-then-bits-switches : goal.returns-then-bits-switches
returns-then-bits-switches c =
    write_refused _ _ _ (uneven _ _ _ c.if-n-gt-MOST_PLACES.false (λ e. c.if-bits-switches.true (e ∙ sym c.switches.ensures.0))) (told c.of-then-bits-switches.ensures)

pub returns-then-bad-bits : goal.returns-then-bad-bits
returns-then-bad-bits c =
    write_refused _ _ _ (no_bit _ _ _ c.if-n-gt-MOST_PLACES.false (c.if-bits-switches.false ∙ c.switches.ensures.0) c.first_bad_bit-bad.ensures c.if-bad-bits.true) (told c.at.ensures)

pub make_sheet-end-requires : goal.make_sheet-end-requires
make_sheet-end-requires c =
    (c.if-n-gt-MOST_PLACES.false, omega (arith, c.if-bits-switches.false, c.switches.ensures.1), bits_all _ (sym c.first_bad_bit-bad.ensures ∙ c.if-bad-bits.false))

pub returns-then-out-end : goal.returns-then-out-end
returns-then-out-end c =
    write_refused _ _ _ (too_short _ _ _ c.if-n-gt-MOST_PLACES.false (c.if-bits-switches.false ∙ c.switches.ensures.0) (sym c.first_bad_bit-bad.ensures ∙ c.if-bad-bits.false) (omega (arith, c.make_sheet-end.ensures.place, c.if-out-end.true))) (told c.of-then-out-end.ensures)

pub slice_bounds-made-end : goal.slice_bounds-made-end
slice_bounds-made-end c = put_within c.make_sheet-end.ensures

pub slice_bounds-copy_from_slice-end-3 : goal.slice_bounds-copy_from_slice-end-3
slice_bounds-copy_from_slice-end-3 c = sym (length-take-le _ _ (put_within c.make_sheet-end.ensures))

pub copy_from_slice-requires : goal.copy_from_slice-requires
copy_from_slice-requires c =
    length-take-le _ _ c.if-out-end.false ∙ sym (length-take-le _ _ (put_within c.make_sheet-end.ensures))

pub returns : goal.returns
returns c =
    write_accepted _ _ _ (write_passes _ _ _ c.if-n-gt-MOST_PLACES.false (c.if-bits-switches.false ∙ c.switches.ensures.0) (sym c.first_bad_bit-bad.ensures ∙ c.if-bad-bits.false) (omega (arith, c.make_sheet-end.ensures.place, c.if-out-end.false)))
    (ap accepted (put_length c.make_sheet-end.ensures))
    (ap (λ front. front ++ drop c.make_sheet-end.result c.args.out.now) c.copy_from_slice.ensures.after ∙ sheet_copied c.args.out.now c.make_sheet-end.ensures)
