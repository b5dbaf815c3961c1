-- The table is made ready, and the recursion starts at place 0 with no entry and no bit.
-- Assumes nothing.
use native.Mathlib.Omega.{arith}
use mathlib.Core.Path.{◌≡◌, sym, ap, ◌∙◌}
use Prim.Native.Nat.{ℕ}
use lib.ListN.{length, replicate, length-replicate}
use Rattle.counts.specs.Counts.{W}
use Rattle.control_network.proofs.Bounds.{tidy_is}
use Rattle.setter.proofs.Start.{begins, zeros_lengthen, tidy_start, ordered_start, start_is, sets_whole, room_start}
use Rattle.setter.proofs.set_table.Goals as goal

pub set_network-w-requires : goal.set_network-w-requires
set_network-w-requires c = let a = c.args in
    let v = c.copy_from_slice in
    let b = c.fill in
    let o = a.order.now in
    let bs : b.new.self ≡ replicate {A = ℕ} (W (length o)) 0 =
    b.ensures.after (λ y e. e) ∙ ap (λ n. replicate {A = ℕ} n 0) c.requires.4 in
    rw (c.whole-whole.ensures, begins c.default.result c.default.ensures) (
      room_start a.t o v.new.self a.trails.now b.new.self a.log.now c.requires.0 (v.auto.self ∙ c.requires.2)
          c.requires.3
          (b.auto.self ∙ c.requires.4) (omega (arith, b.auto.self, c.requires.5)) c.requires.6,
      tidy_is (sym (start_is o v.new.self a.trails.now b.new.self v.ensures.after c.requires.3 bs)) (tidy_start o),
      ordered_start a.t o v.new.self a.trails.now b.new.self c.requires.0 c.requires.1 v.ensures.after
          (ap length c.requires.3 ∙ length-replicate {A = ℕ} (length o) 0)
          (b.auto.self ∙ c.requires.4),
      rw c.requires.3 (zeros_lengthen a.t (length o) c.requires.0),
    )

pub returns : goal.returns
returns c = let a = c.args in
    let v = c.copy_from_slice in
    let b = c.fill in
    let x = c.set_network-w in
    let net = c.whole-whole.ensures in
    let w = begins c.default.result c.default.ensures in
    let bs : b.new.self ≡ replicate {A = ℕ} (W (length a.order.now)) 0 =
    b.ensures.after (λ y e. e) ∙ ap (λ n. replicate {A = ℕ} n 0) c.requires.4 in
    sets_whole a.t a.order.now v.new.self a.trails.now b.new.self a.log.now _ _ _ _ x.result
    v.ensures.after c.requires.3 bs (rw (net, w) at x.ensures.0) (rw (net, w) at x.ensures.1)
