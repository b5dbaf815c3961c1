-- The sweeps give what step 3 says.
-- Assumes nothing.
use native.Mathlib.Omega.{arith}
use mathlib.Core.Path.{ap, ◌∙◌}
use Prim.Native.Nat.{◌-◌, ◌≤◌}
use lib.ListN.{length}
use Rattle.counts.specs.Counts.{up}
use Rattle.wirings.specs.Nets.{wiring_of}
use Rattle.control_sides.proofs.Bounds.{pair_within}
use Rattle.control_pairs.proofs.Held.{settled_numbered}
use Rattle.control_walk.specs.declared.Walk.{Walk}
use Rattle.control_walk.proofs.Going.{went_one}
use Rattle.control_rings.proofs.Stepping.{low_within, turned_small, turned_round, any_after, step3_is}
use Rattle.control_rings.proofs.step3.Goals as goal

pub settle-low-requires : goal.settle-low-requires
settle-low-requires c = let p = c.pair_of-pair in
    let w : p.result ≤ c.args.w.s = rw p.ensures
    (pair_within c.args.net.topology (up c.args.net.size) c.args.w.s) in
    let bit = turned_round c.side_of-bit.result
    ((wiring_of c.args.net.topology).dec (up c.args.net.size) c.args.w.s).1 c.side_of-bit.ensures in
    (omega arith, omega arith, c.requires.3, omega (arith, c.requires.6), bit.1, c.requires.5.numbered)

pub below-requires : goal.below-requires
below-requires c = let p = c.pair_of-pair in
    let w : p.result ≤ c.args.w.s = rw p.ensures
    (pair_within c.args.net.topology (up c.args.net.size) c.args.w.s) in
    (omega (arith, c.requires.6), omega (arith, c.requires.1))

pub turn-requires : goal.turn-requires
turn-requires c = (
  omega (arith, c.requires.1),
  omega (arith, c.requires.1, low_within c.settle-low.ensures),
  c.requires.6,
  c.requires.5.c_below,
  omega (arith, c.requires.4, c.well_formed.1.1.0.0),
)

pub returns : goal.returns
returns c = let a = c.args in
    let k = up a.net.size in
    let few : k ≤ 512 = omega (arith, c.requires.1) in
    let H = c.requires.5 in
    let room : 512 ≤ length a.pairs.now = c.requires.3 in
    let T = c.settle-low in
    let p = c.pair_of-pair in
    let b = c.below in
    let bit = turned_round c.side_of-bit.result
    ((wiring_of c.args.net.topology).dec (up c.args.net.size) c.args.w.s).1 c.side_of-bit.ensures in
    let small = turned_small a.net.topology k T.result a.w.any a.w (omega arith) (omega (arith, low_within T.ensures))
    c.requires.6 H.c_below in
    let any = any_after a.w.any b.result T.ensures few room bit.1 H.numbered H.any_is b.ensures.0 in (
      went_one 3 a.net.start a.net.size a.w.b 0 a.w c.turn.result a.log.now _
          (ap (λ (r : Walk). r.e) c.turn.ensures)
          (ap (λ (r : Walk). r.b) c.turn.ensures ∙ omega arith) (rw c.number.ensures at c.write_entry.ensures),
      record {
        numbered = settled_numbered T.ensures few room bit.1 H.numbered;
        any_is = ap (λ (r : Walk). r.any) c.turn.ensures ∙ any;
        f_below = rw c.turn.ensures small.0;
        c_below = rw c.turn.ensures small.1;
      },
      λ place vs ts ms bs bit₀ long.
          step3_is (wiring_of a.net.topology) place a.net.size bit₀ vs ts a.w c.turn.result p.result
          (1 - c.side_of-bit.result)
          T.result _ a.pairs.now _ ms bs
          few room bit.1 H.numbered long p.ensures bit.0 T.ensures c.turn.ensures,
    )
