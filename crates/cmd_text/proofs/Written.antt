-- A text put at the front of a buffer: what is written there, and that it has room.
-- Assumes nothing.
use mathlib.Core.Path.{◌≡◌, ap, ◌∙◌}
use mathlib.Core.List.{List, ◌++◌}
use Prim.Native.Nat.{ℕ, ◌≤◌}
use native.Mathlib.Omega.{arith}
use lib.ListN.{length, drop, length-append}
use Rattle.answers.specs.Buffers.{Put}
use Rattle.answers.proofs.Buffers.{overlay-front}
use Rattle.answers.proofs.Putting.{put_length}
use Rattle.cmd_text.specs.Written.{Written, written, printed}

pub text-written : {before text : List ℕ} {r : ℕ} {after : List ℕ} → Put before 0 text r after → written r after ≡ printed text before
text-written P = rw (put_length P, P.buffer)

pub text_fits : (text before : List ℕ) {after : List ℕ} {r : ℕ} → written r after ≡ printed text before → r ≤ length after
text_fits text before {after} {r} e =
    let n : r ≡ length text = ap (λ (w : Written). w.count) e in
    let b : after ≡ text ++ drop (length text) before = ap (λ (w : Written). w.buffer) e ∙ overlay-front before text in
    omega (arith, n, ap length b, length-append text (drop (length text) before))
