-- The loop gathers the values place by place, then the row is padded.
-- Assumes nothing.
use native.Mathlib.Omega.{arith}
use mathlib.Core.Path.{◌≡◌, ◌∙◌, ap}
use lib.ListN.{length, replicate, take, drop}
use Rattle.std.proofs.lemmas.List.{length-take, length-drop}
use Prim.Native.Nat.{◌+◌, ◌-◌, ◌*◌}
use Rattle.control_rows.proofs.Rows.{padded}
use Rattle.control_rows.proofs.fill.Goals as goal

pub returns : goal.returns
returns c = let a = c.args in
    let l = c.loop-i in
    let all : l.i ≡ a.m = omega arith in
    let long : length (take (c.sixteens.result - a.m) (drop a.m l.row)) ≡ c.sixteens.result - a.m =
    simp (length-take, length-drop) (omega arith) in
    padded (λ j. a.o + j * a.apart) a.m c.sixteens.result a.xs.now l.row c.fill.new.self c.sixteens.ensures (omega arith) (rw all at l.invariant) (c.fill.ensures.after (λ y e. e) ∙ ap (λ k. replicate k 65535) long)
