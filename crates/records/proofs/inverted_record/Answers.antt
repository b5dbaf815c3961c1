-- `records::inverted_record` meets its contract.
-- Assumes nothing.
use mathlib.Core.Path.{◌≡◌, ◌∙◌}
use lib.ListN.{length}
use Rattle.records.proofs.Records.{sound, inverted_sound}
use borrow.Author.Rules.{rules}
use Rattle.records.proofs.inverted_record.Goals as goal

pub invert-entries-requires : goal.invert-entries-requires
invert-entries-requires c = let p = c.args.p.now in
    let s : length p.entries ≡ 1024 = search rules in
    let S = sound p s c.requires in
    (S.small, S.permutation)

pub returns : goal.returns
returns c = let p = c.args.p.now in
    let s : length p.entries ≡ 1024 = search rules in
    c.build.ensures ∙ inverted_sound p s (sound p s c.requires) c.invert-entries.ensures
