-- The product of the two bits is 1 where the ring is closed and a pair is unmarked.
-- Assumes nothing.
use Rattle.wirings.specs.Nets.{wiring_of}
use Rattle.control_sides.proofs.Bounds.{other-below}
use Rattle.control_rings.proofs.Stepping.{turned_is}
use Rattle.control_rings.proofs.turn.Goals as goal

pub equal-requires : goal.equal-requires
equal-requires c = (rw c.other_of-f.ensures (other-below c.args.t c.args.k c.args.w.s c.requires.0 c.requires.2), c.requires.3)

pub returns : goal.returns
returns c = let a = c.args in
    let f = c.other_of-f in
    let e = c.equal in
    let b = c.below in
    let n = c.first_of-next in
    let p = c.pick in
    let q = c.pick-2 in
    turned_is (wiring_of a.t) a.k a.low a.any a.w f.result e.result b.result n.result p.result q.result
    f.ensures e.ensures b.ensures.0 n.ensures p.ensures q.ensures
