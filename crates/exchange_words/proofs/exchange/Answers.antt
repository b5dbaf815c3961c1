-- Two numbers of N bytes, switched and put back.
-- Assumes nothing.
use Rattle.std.proofs.Common.{ap, ◌∙◌}
use Rattle.exchange_words.specs.Words.{byte_of, written}
use Rattle.exchange_words.proofs.Words.{numbers_switched}
use Rattle.exchange_words.proofs.exchange.Goals as goal

pub returns : goal.returns
returns g c = let a = c.args in
    let n = g.row.N in
    c.put-2.ensures ∙ ap (written n a.a (λ j. byte_of j c.switched-w.result.lower)) c.put.ensures
    ∙ numbers_switched n a.a a.gap a.s a.blocks.now c.number-x.result c.number-y.result
    c.switched-w.result.lower c.switched-w.result.upper c.requires.1 c.requires.2
    (λ i. (c.slice_known-1.given i).fits) c.number-x.ensures c.number-y.ensures c.switched-w.ensures
