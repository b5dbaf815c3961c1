-- The lowest bytes of a number.
-- Assumes nothing.
use Rattle.std.proofs.Common.{ℕ, List, length, get_or, ap, ◌∙◌, arith, length-take-le, get_or-take}
use Rattle.exchange_words.specs.Words.{byte_of}
use Rattle.exchange_words.proofs.Written.{part-filled}
use Rattle.exchange_words.proofs.Words.{byte-le}
use Rattle.exchange_words.proofs.put.Goals as goal

pub returns : goal.returns
returns g c = let n = g.row.N in
    let a = c.args in
    let part = c.to_le_bytes-part in
    part-filled n a.at _ (λ j. byte_of j a.v) a.bytes.now c.copy_from_slice.new.self c.requires.1 (omega arith)
    (ap length c.copy_from_slice.ensures.after ∙ length-take-le n part.result (omega (arith, ap length part.ensures)))
    (λ j h. ap (λ (u : List ℕ). get_or u j 0) c.copy_from_slice.ensures.after ∙ get_or-take n part.result j 0 h
    ∙ ap (λ (u : List ℕ). get_or u j 0) part.ensures ∙ byte-le a.v j (omega arith))
