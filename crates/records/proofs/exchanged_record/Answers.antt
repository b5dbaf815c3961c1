-- `records::exchanged_record` meets its contract.
-- Assumes nothing.
use mathlib.Core.Path.{◌≡◌, ◌∙◌}
use native.Mathlib.Omega.{arith}
use lib.ListN.{length}
use Rattle.records.proofs.Records.{sound, few_fixed, exchanged-count, exchanged_sound}
use borrow.Author.Rules.{rules}
use Rattle.records.proofs.exchanged_record.Goals as goal

pub fixed_exchanged-fixed-requires : goal.fixed_exchanged-fixed-requires
fixed_exchanged-fixed-requires c = let p = c.args.p.now in
    let s : length p.entries ≡ 1024 = search rules in
    let S = sound p s c.requires.0 in
    let law = exchanged-count p s S c.args.i c.args.j c.requires.2 c.requires.3 in
    (few_fixed p s S, omega arith, omega arith, omega (arith, law))

pub returns : goal.returns
returns c = let p = c.args.p.now in
    let s : length p.entries ≡ 1024 = search rules in
    c.build.ensures
    ∙ exchanged_sound p s (sound p s c.requires.0) c.args.i c.args.j c.requires.2 c.requires.3 c.exchange.ensures
    c.fixed_exchanged-fixed.ensures
