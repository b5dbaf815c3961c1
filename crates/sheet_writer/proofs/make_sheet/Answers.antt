-- `sheet_writer::make_sheet` meets its contract.
-- Assumes nothing.
use native.Mathlib.Omega.{arith}
use mathlib.Core.Path.{◌≡◌, sym, ap, ◌∙◌}
use lib.ListN.{length, replicate, take, drop}
use lib.Seq.{length-take-le}
use Rattle.numbers.proofs.Numbers.{bytes_few}
use Rattle.sheets.specs.Sheet.{numbers_for, fourteens}
use Rattle.sheets.proofs.Unpacking.{fourteens-fit, fourteens-length}
use Rattle.sheets.proofs.Writing.{one_byte_lem}
use Rattle.sheet_writer.proofs.Writing.{sheet_put, row_made}
use Rattle.sheet_writer.proofs.make_sheet.Goals as goal

pub put_number-b-requires : goal.put_number-b-requires
put_number-b-requires c =
    (omega (arith, c.requires), omega (arith, c.put_number-a.ensures, c.put_number-a.auto.buf, bytes_few 1, c.requires))

pub slice_bounds-put_row-end : goal.slice_bounds-put_row-end
slice_bounds-put_row-end c = let bits = c.args.bits.now in
    let k = c.div_ceil-k.result in
    let few : k ≡ numbers_for (length bits) = omega (arith, c.div_ceil-k.ensures) in
    let whole : length (take k (replicate 659 0)) ≡ k = length-take-le k (replicate 659 0) (omega (arith, few, c.requires)) in
    let made = row_made bits c.gather.new.row (drop k (replicate 659 0)) whole c.gather.ensures in
    sym (ap length made ∙ fourteens-length k bits)

pub put_row-requires : goal.put_row-requires
put_row-requires c = let bits = c.args.bits.now in
    let k = c.div_ceil-k.result in
    let few : k ≡ numbers_for (length bits) = omega (arith, c.div_ceil-k.ensures) in
    let whole : length (take k (replicate 659 0)) ≡ k = length-take-le k (replicate 659 0) (omega (arith, few, c.requires)) in
    let made = row_made bits c.gather.new.row (drop k (replicate 659 0)) whole c.gather.ensures in (
      omega (
        arith,
        c.put_number-a.ensures,
        c.put_number-a.auto.buf,
        c.put_number-b.ensures,
        c.put_number-b.auto.buf,
        one_byte_lem,
        bytes_few c.args.n,
        c.requires,
        few,
        ap length made,
        fourteens-length k bits,
      ),
      λ i. rw made (fourteens-fit k bits c.requires.2 i),
    )

pub returns : goal.returns
returns c = let bits = c.args.bits.now in
    let k = c.div_ceil-k.result in
    let few : k ≡ numbers_for (length bits) = omega (arith, c.div_ceil-k.ensures) in
    let whole : length (take k (replicate 659 0)) ≡ k = length-take-le k (replicate 659 0) (omega (arith, few, c.requires)) in
    let made = row_made bits c.gather.new.row (drop k (replicate 659 0)) whole c.gather.ensures in
    sheet_put c.args.n bits (made ∙ ap (λ i. fourteens i bits) few) (omega arith) c.put_number-a.ensures c.put_number-b.ensures c.put_row.ensures
