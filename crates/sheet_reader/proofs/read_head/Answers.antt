-- `sheet_reader::read_head` meets its contract.
-- Assumes nothing.
use native.Mathlib.Omega.{arith}
use Rattle.numbers.proofs.Numbers.{reads}
use Rattle.sheets.proofs.Asking.{refusal_as, form_stops, form_wrong, places_stop, places_large, room_short, head_done}
use Rattle.sheet_reader.proofs.read_head.Goals as goal

pub returns-in_default : goal.returns-in_default
returns-in_default c = rw c.in_default.is (form_stops _ _ c.in_default.field-0 c.in_default.ensures)

pub returns-then-form-ne1 : goal.returns-then-form-ne1
returns-then-form-ne1 c = refusal_as c.of.ensures (form_wrong _ _ (reads _ _ _ c.in-Ok.ensures) c.if-form-ne1.true)

pub returns-in_default-read : goal.returns-in_default-read
returns-in_default-read c =
    rw c.in_default-read.is
    (places_stop _ _ (reads _ _ _ c.in-Ok.ensures) c.if-form-ne1.false c.in_default-read.field-0 c.in_default-read.ensures)

pub returns-then-n-gt-MOST_PLACES : goal.returns-then-n-gt-MOST_PLACES
returns-then-n-gt-MOST_PLACES c =
    refusal_as c.of-then-n-gt-MOST_PLACES.ensures
    (places_large _ _ (reads _ _ _ c.in-Ok.ensures) c.if-form-ne1.false (reads _ _ _ c.in-Ok-read.ensures) (omega (arith, c.if-n-gt-MOST_PLACES.true)))

pub returns-then-room-switches : goal.returns-then-room-switches
returns-then-room-switches c =
    refusal_as c.of-then-room-switches.ensures
    (room_short _ _ (reads _ _ _ c.in-Ok.ensures) c.if-form-ne1.false (reads _ _ _ c.in-Ok-read.ensures) (omega (arith, c.if-n-gt-MOST_PLACES.false))
    (omega (arith, c.if-room-switches.true)))

pub returns : goal.returns
returns c =
    head_done _ _ (reads _ _ _ c.in-Ok.ensures) c.if-form-ne1.false (reads _ _ _ c.in-Ok-read.ensures) (omega (arith, c.if-n-gt-MOST_PLACES.false))
    (omega (arith, c.if-room-switches.false))
