-- `records::combined_record` meets its contract.
-- Assumes nothing.
use mathlib.Core.Path.{◌≡◌, ◌∙◌}
use lib.ListN.{length}
use Rattle.records.proofs.Records.{sound, combined_record}
use borrow.Author.Rules.{rules}
use Rattle.records.proofs.combined_record.Goals as goal

pub combine-made-requires : goal.combine-made-requires
combine-made-requires c = let p = c.args.first.now in
    let s : length p.entries ≡ 1024 = search rules in
    let S = sound p s c.requires.0 in
    (S.small, S.permutation)

pub returns : goal.returns
returns c = let p = c.args.first.now in
    let s : length p.entries ≡ 1024 = search rules in
    c.build.ensures ∙ combined_record p c.args.second.now (sound p s c.requires.0).small s c.requires.1 c.combine-made.ensures
