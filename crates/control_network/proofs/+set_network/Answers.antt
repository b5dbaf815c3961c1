-- A network of fewer than two places: nothing. Else the parts one after the other; the size falls at each call.
-- Assumes nothing.
use native.Mathlib.Omega.{arith}
use mathlib.Core.Path.{◌≡◌, sym}
use mathlib.Core.Bool.{true, false}
use Prim.Native.Nat.{◌≤◌, ◌<◌}
use Rattle.counts.specs.Counts.{up}
use Rattle.counts.proofs.Rule.{W_none}
use Rattle.network.specs.Network.{down}
use Rattle.wirings.specs.Nets.{wiring_of, place_of, side_of}
use Rattle.control_network.specs.Inner.{unmarked}
use Rattle.control_network.proofs.Entries.{went_none, went_as, net_none, entries_none}
use Rattle.control_network.proofs.Parts.{done, half_done}
use Rattle.control_network.proofs.Whole.{Entered, Set, room_top, tidy_top, ordered_top, lengthens_top, asks_six}
use Rattle.control_network.proofs.Whole.{room_bottom, tidy_bottom, ordered_bottom, lengthens_bottom, whole_log, whole_state}
use Rattle.control_network.proofs.+set_network.Goals as goal

pub returns-then-net-lt2 : goal.returns-then-net-lt2
returns-then-net-lt2 t c =
    let a = c.args in
    let h : a.net.size < 2 = c.if-net-lt2.true in
    let wiring = wiring_of a.net.topology in (
      went_as (entries_none wiring (place_of a.net) a.net.size a.w.b h) (sym (W_none a.net.size h))
          (went_none a.w a.log.now),
      λ j l. net_none wiring (place_of a.net) a.net.size a.w.b
          (unmarked j a.vals.now a.trails.now a.bits.now a.w) h,
    )

pub set_network-y-requires : goal.set_network-y-requires
set_network-y-requires t c =
    let a = c.args in
    let p = c.requires in
    let two : 2 ≤ a.net.size = c.if-net-lt2.false in
    let x = c.enter-x in
    let D : Entered a.net a.w x.result a.vals.now a.trails.now a.bits.now a.log.now
    x.new.vals x.new.trails x.new.bits x.new.log =
    done x.ensures x.auto.vals x.auto.trails x.auto.bits x.auto.log in
    let A = c.top.ensures in
    let size : c.top.result.size ≡ up a.net.size = A.size in (
      omega (arith, two, c.decreases, size),
      (
        room_top a.net a.w a.vals.now a.trails.now a.bits.now a.log.now two p.0 p.1 p.2 p.3 D A,
        tidy_top a.net a.w a.vals.now a.trails.now a.bits.now a.log.now two p.0 p.1 p.2 p.3 D A,
        ordered_top a.net a.w a.vals.now a.trails.now a.bits.now a.log.now two p.0 p.1 p.2 p.3 D A,
        lengthens_top a.net a.w a.vals.now a.trails.now a.bits.now a.log.now two p.0 p.1 p.2 p.3 D A,
      ),
    )

pub set_network-z-requires : goal.set_network-z-requires
set_network-z-requires t c =
    let a = c.args in
    let p = c.requires in
    let two : 2 ≤ a.net.size = c.if-net-lt2.false in
    let x = c.enter-x in
    let y = c.set_network-y in
    let D : Entered a.net a.w x.result a.vals.now a.trails.now a.bits.now a.log.now
    x.new.vals x.new.trails x.new.bits x.new.log =
    done x.ensures x.auto.vals x.auto.trails x.auto.bits x.auto.log in
    let A = c.top.ensures in
    let D₂ : Set a.net.topology (up a.net.size) (λ i. place_of a.net (side_of a.net (i, false))) x.result y.result
    x.new.vals x.new.trails x.new.bits x.new.log y.new.vals y.new.trails y.new.bits y.new.log =
    half_done A y.ensures y.auto.vals y.auto.trails y.auto.bits y.auto.log in
    let B = c.bottom.ensures in
    let size : c.bottom.result.size ≡ down a.net.size = B.size in (
      omega (arith, two, c.decreases, size),
      (
        room_bottom a.net a.w a.vals.now a.trails.now a.bits.now a.log.now two p.0 p.1 p.2 p.3 D A D₂ B,
        tidy_bottom a.net a.w a.vals.now a.trails.now a.bits.now a.log.now two p.0 p.1 p.2 p.3 D A D₂ B,
        ordered_bottom a.net a.w a.vals.now a.trails.now a.bits.now a.log.now two p.0 p.1 p.2 p.3 D A D₂ B,
        lengthens_bottom a.net a.w a.vals.now a.trails.now a.bits.now a.log.now two p.0 p.1 p.2 p.3 D A D₂ B,
      ),
    )

pub step6-requires : goal.step6-requires
step6-requires t c =
    let a = c.args in
    let p = c.requires in
    let two : 2 ≤ a.net.size = c.if-net-lt2.false in
    let x = c.enter-x in
    let y = c.set_network-y in
    let z = c.set_network-z in
    let D : Entered a.net a.w x.result a.vals.now a.trails.now a.bits.now a.log.now
    x.new.vals x.new.trails x.new.bits x.new.log =
    done x.ensures x.auto.vals x.auto.trails x.auto.bits x.auto.log in
    let A = c.top.ensures in
    let D₂ : Set a.net.topology (up a.net.size) (λ i. place_of a.net (side_of a.net (i, false))) x.result y.result
    x.new.vals x.new.trails x.new.bits x.new.log y.new.vals y.new.trails y.new.bits y.new.log =
    half_done A y.ensures y.auto.vals y.auto.trails y.auto.bits y.auto.log in
    let B = c.bottom.ensures in
    let D₃ : Set a.net.topology (down a.net.size) (λ i. place_of a.net (side_of a.net (i, true))) y.result z.result
    y.new.vals y.new.trails y.new.bits y.new.log z.new.vals z.new.trails z.new.bits z.new.log =
    half_done B z.ensures z.auto.vals z.auto.trails z.auto.bits z.auto.log in
    asks_six a.net a.w a.vals.now a.trails.now a.bits.now a.log.now two p.0 p.1 p.2 p.3 D A D₂ B D₃

pub returns : goal.returns
returns t c =
    let a = c.args in
    let p = c.requires in
    let two : 2 ≤ a.net.size = c.if-net-lt2.false in
    let x = c.enter-x in
    let y = c.set_network-y in
    let z = c.set_network-z in
    let D : Entered a.net a.w x.result a.vals.now a.trails.now a.bits.now a.log.now
    x.new.vals x.new.trails x.new.bits x.new.log =
    done x.ensures x.auto.vals x.auto.trails x.auto.bits x.auto.log in
    let A = c.top.ensures in
    let D₂ : Set a.net.topology (up a.net.size) (λ i. place_of a.net (side_of a.net (i, false))) x.result y.result
    x.new.vals x.new.trails x.new.bits x.new.log y.new.vals y.new.trails y.new.bits y.new.log =
    half_done A y.ensures y.auto.vals y.auto.trails y.auto.bits y.auto.log in
    let B = c.bottom.ensures in
    let D₃ : Set a.net.topology (down a.net.size) (λ i. place_of a.net (side_of a.net (i, true))) y.result z.result
    y.new.vals y.new.trails y.new.bits y.new.log z.new.vals z.new.trails z.new.bits z.new.log =
    half_done B z.ensures z.auto.vals z.auto.trails z.auto.bits z.auto.log in
    let q = c.step6.ensures in (
      whole_log a.net a.w a.vals.now a.trails.now a.bits.now a.log.now two p.0 p.1 p.2 p.3 D A D₂ B D₃ q.0
          (λ ms. q.1 ms a.w.b),
      whole_state a.net a.w a.vals.now a.trails.now a.bits.now a.log.now two p.0 p.1 p.2 p.3 D A D₂ B D₃ q.0
          (λ ms. q.1 ms a.w.b),
    )
