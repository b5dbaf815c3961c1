-- `cmd_read_order::set` meets its contract.
-- Assumes nothing.
use mathlib.Core.Path.{sym, ◌∙◌}
use native.Mathlib.Omega.{arith}
use lib.Seq.{length-take-le}
use Rattle.cmd_read_order.proofs.Setting.{set_refused, set_accepted}
use Rattle.cmd_read_order.proofs.set.Goals as goal

pub returns-then-bad-order : goal.returns-then-bad-order
returns-then-bad-order c = let a = c.args in
    let bad = c.first_bad_entry-bad.ensures in
    rw (c.at.ensures, bad) (set_refused a.order.now a.bits.now (λ e. c.if-bad-order.true (bad ∙ e)))

pub slice_bounds-setting_of_order-end-2 : goal.slice_bounds-setting_of_order-end-2
slice_bounds-setting_of_order-end-2 c = sym (length-take-le _ c.args.bits.now (omega (arith, c.switches-w.ensures.1)))

pub setting_of_order-entries-requires : goal.setting_of_order-entries-requires
setting_of_order-entries-requires c = (
  c.requires,
  sym c.first_bad_entry-bad.ensures ∙ c.if-bad-order.false,
  length-take-le _ c.args.bits.now (omega (arith, c.switches-w.ensures.1)) ∙ c.switches-w.ensures.0,
)

pub returns : goal.returns
returns c = let a = c.args in
    let bad = sym c.first_bad_entry-bad.ensures ∙ c.if-bad-order.false in
    let made = c.setting_of_order-entries.ensures in
    set_accepted a.order.now a.bits.now bad c.switches-w.ensures.0 made.0 made.1
