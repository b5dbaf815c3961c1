-- The first i rounds are done.
-- Assumes nothing.
use native.Mathlib.Omega.{arith}
use mathlib.Core.Path.{◌≡◌, refl, ap, ◌∙◌}
use Prim.Native.Nat.{◌-◌, ◌<◌}
use mathlib.Core.List.{[], ◌∷◌}
use Rattle.counts.specs.Counts.{up}
use Rattle.network.specs.Log.{entry}
use Rattle.steps.specs.Sequence.{rounds}
use Rattle.steps.specs.Fold.{rounds_of}
use Rattle.steps.proofs.Lengths.{length-rounds}
use Rattle.wirings.specs.Nets.{wiring_of}
use Rattle.control_pairs.specs.Pairs.{marks_in, bits_in}
use Rattle.control_walk.specs.Walks.{state, lying}
use Rattle.control_network.proofs.Entries.{went_none, went_then, went_as, rounds_more, round_more}
use Rattle.control_network.proofs.rounds.Goals as goal

pub loop-round-init : goal.loop-round-init
unfolding rounds rounds_of
loop-round-init c = (went_none c.args.w c.args.log.now, c.requires.6, refl, λ place vs ts ms bs bit G long. refl)

pub round-x-requires : goal.round-x-requires
round-x-requires c = let l = c.loop-round in
    let i : l._round < up c.args.net.size = omega arith in (
      c.requires.0,
      c.requires.1,
      c.requires.2,
      omega (
        arith,
        c.requires.3,
        l.auto.log,
        l.invariant.0.count,
        length-rounds l._round c.args.net.start c.args.net.size
            c.args.w.b,
      ),
      rw l.invariant.2 c.requires.4,
      rw l.invariant.2 c.requires.5,
      l.invariant.1,
      omega (arith, c.requires.7, l.invariant.0.bit),
    )

pub loop-round-preserved : goal.loop-round-preserved
loop-round-preserved c = let l = c.loop-round in
    let r = c.round-x in
    let i : l._round < up c.args.net.size = omega arith in
    let o = c.args.net.start in
    let m = c.args.net.size in
    let b : l.x.b ≡ c.args.w.b = omega (arith, l.invariant.0.bit) in (
      went_as (rounds_more l._round o m c.args.w.b) refl
          (went_then (omega (arith, i, c.requires.3, length-rounds l._round c.args.net.start c.args.net.size c.args.w.b))
          l.invariant.0
          (went_as (ap (λ b. entry 1 o m b ∷ entry 2 o m b ∷ entry 3 o m b ∷ []) b) refl r.ensures.0)),
      r.ensures.1,
      r.ensures.2 ∙ l.invariant.2,
      λ place vs ts ms bs bit G long.
          r.ensures.3 place vs ts ms bs bit (rw l.invariant.2 G) long
          ∙ ap (rounds_of (wiring_of c.args.net.topology) (lying place c.args.net.size bit) 1)
          (l.invariant.3 place vs ts ms bs bit G long)
          ∙ round_more (wiring_of c.args.net.topology) (lying place c.args.net.size bit) l._round _,
    )

pub returns : goal.returns
returns c = let l = c.loop-round in
    let a = c.args in
    let e : l._round ≡ up a.net.size = omega arith in (
      rw (← e) l.invariant.0,
      l.invariant.1,
      l.invariant.2,
      λ place vs ts ms bs bit G long.
          l.invariant.3 place vs ts ms bs bit G long
          ∙ ap (λ n. rounds_of (wiring_of a.net.topology) (lying place a.net.size bit) n
          (state vs ts (marks_in (up a.net.size) a.rings.now.pairs.now ms)
          (bits_in bit (up a.net.size - 1) a.rings.now.pairs.now bs) a.w)) e,
    )
