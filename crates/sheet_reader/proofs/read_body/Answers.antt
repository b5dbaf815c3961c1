-- `sheet_reader::read_body` meets its contract.
-- Assumes nothing.
use native.Mathlib.Omega.{arith}
use mathlib.Core.Path.{◌≡◌, ◌∙◌}
use lib.Seq.{length-take-le}
use Rattle.std.proofs.lemmas.Result.{err_from_is_err_and}
use Rattle.sheets.specs.Sheet.{numbers_for}
use Rattle.std.specs.Prelude.{Ok}
use Rattle.rows.proofs.Rows.{numbers_fit}
use Rattle.rows.proofs.Reading.{RowOf}
use Rattle.sheets.proofs.Asking.{body_stops, row_there, body_fill, body_surplus, body_done}
use Rattle.numbers.specs.Numbers.{sevens}
use Rattle.numbers.proofs.Numbers.{value_small}
use Rattle.sheet_reader.proofs.read_body.Goals as goal

pub returns-in_err-end : goal.returns-in_err-end
returns-in_err-end c = let p = err_from_is_err_and c.from_residual.result c.from_residual.ensures.1 in
    let few : c.div_ceil-k.result ≡ numbers_for c.args.w = omega (arith, c.div_ceil-k.ensures) in
    rw (p.1, p.2) (body_stops _ _ _ _ (rw few at c.in_err-end.ensures))

pub filled-requires : goal.filled-requires
filled-requires c = let few : c.div_ceil-k.result ≡ numbers_for c.args.w = omega (arith, c.div_ceil-k.ensures) in
    let k = c.div_ceil-k.result in
    let R : RowOf sevens c.args.input.now c.args.at (numbers_for c.args.w) c.read_row.new.values (Ok c.in_ok-end.end) = rw few at c.in_ok-end.ensures in (
      length-take-le k c.read_row.new.values (omega (arith, few, c.read_row.auto.values, c.requires)) ∙ few,
      c.requires,
      λ i. rw (few, row_there _ _ _ R) (numbers_fit sevens _ (value_small _) _ _ i),
    )

pub returns-then-not-filled : goal.returns-then-not-filled
returns-then-not-filled c = let few : c.div_ceil-k.result ≡ numbers_for c.args.w = omega (arith, c.div_ceil-k.ensures) in
    let R : RowOf sevens c.args.input.now c.args.at (numbers_for c.args.w) c.read_row.new.values (Ok c.in_ok-end.end) = rw few at c.in_ok-end.ensures in
    rw c.at.ensures (body_fill _ _ _ R (rw few at c.if-not-filled.ensures))

pub returns-then-end-input : goal.returns-then-end-input
returns-then-end-input c = let few : c.div_ceil-k.result ≡ numbers_for c.args.w = omega (arith, c.div_ceil-k.ensures) in
    let R : RowOf sevens c.args.input.now c.args.at (numbers_for c.args.w) c.read_row.new.values (Ok c.in_ok-end.end) = rw few at c.in_ok-end.ensures in
    rw c.at-then-end-input.ensures (body_surplus _ _ _ R (rw few at c.if-not-filled.ensures) c.if-end-input.true)

pub returns : goal.returns
returns c = let few : c.div_ceil-k.result ≡ numbers_for c.args.w = omega (arith, c.div_ceil-k.ensures) in
    let R : RowOf sevens c.args.input.now c.args.at (numbers_for c.args.w) c.read_row.new.values (Ok c.in_ok-end.end) = rw few at c.in_ok-end.ensures in
    rw few (body_done _ _ _ R (rw few at c.if-not-filled.ensures) c.if-end-input.false)
