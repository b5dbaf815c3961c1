-- `sheet_reader::filled` meets its contract.
-- Assumes nothing.
use native.Mathlib.Omega.{arith}
use native.Mathlib.Decide.{dec_lt}
use mathlib.Core.Path.{◌≡◌, sym, ◌∙◌}
use Prim.Native.Nat.{◌<◌, ◌-◌}
use lib.ListN.{length, get_or}
use Rattle.std.specs.Prelude.{Some, None}
use Rattle.std.proofs.lemmas.Option.{slice_get_within, slice_get-get_or, get_or_from_slice_get}
use Rattle.sheets.proofs.Unpacking.{fill_none, fill_last}
use Rattle.sheet_reader.proofs.filled.Goals as goal

pub returns-in_default : goal.returns-in_default
returns-in_default c = let values = c.args.values.now in
    elim (dec_lt (length values - 1) (length values)) [
      | yes l ↦ let z : None ≡ Some (get_or values (length values - 1) 0) = c.in_default.ensures.value ∙ slice_get-get_or values (length values - 1) 0 l in cc
      | no h ↦ fill_none values c.args.w (omega arith)
    ]

pub returns : goal.returns
returns c = let values = c.args.values.now in
    let there = sym c.in-Some.ensures.value in
    let long : length values - 1 < length values = slice_get_within values (length values - 1) c.in-Some.last.now there in
    let last : c.from.result ≡ get_or values (length values - 1) 0 =
    c.from.ensures ∙ sym (get_or_from_slice_get values (length values - 1) c.in-Some.last.now 0 there)
    in
    rw last (fill_last values c.args.w (length values - 1) (omega arith) (omega (arith, c.requires)) (omega (arith, c.requires)) c.requires.2)
