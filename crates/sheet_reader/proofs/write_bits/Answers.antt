-- `sheet_reader::write_bits` meets its contract.
-- Assumes nothing.
use native.Mathlib.Omega.{arith}
use mathlib.Core.Path.{◌≡◌, sym}
use lib.ListN.{length, take}
use lib.Seq.{length-take-le}
use Rattle.sheets.specs.Reading.{bits_in}
use Rattle.sheets.proofs.Unpacking.{bits_length, bit_at}
use Rattle.sheet_reader.proofs.Writing.{written_more, written_all}
use Rattle.sheet_reader.proofs.write_bits.Goals as goal

pub loop-i-preserved : goal.loop-i-preserved
loop-i-preserved c = let values = c.args.values.now in
    let room : length (take c.args.w c.args.bits.now) ≡ c.args.w = length-take-le c.args.w c.args.bits.now c.requires.0 in
    written_more (bits_in values) c.loop-i.bit-items c.loop-i.i _ (omega arith) (omega (arith, bits_length values, c.requires, room))
    (rw c.from-v.ensures (sym (bit_at _ _ (omega (arith, c.requires, room))))) c.loop-i.invariant

pub returns : goal.returns
returns c = let values = c.args.values.now in
    let w = c.args.w in
    let room : length (take w c.args.bits.now) ≡ w = length-take-le w c.args.bits.now c.requires.0 in
    let end : c.loop-i.i ≡ w = omega (arith, room) in
    written_all (bits_in values) c.args.bits.now c.loop-i.bit-items w (omega (arith, room)) (omega (arith, bits_length values, c.requires))
    (rw end at c.loop-i.invariant)
