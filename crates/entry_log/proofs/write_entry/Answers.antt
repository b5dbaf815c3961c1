-- An entry is packed, and written.
-- Assumes nothing.
use native.Mathlib.Omega.{arith}
use mathlib.Core.Path.{ap, ◌∙◌}
use Prim.Native.Nat.{◌*◌}
use Rattle.network.specs.Log.{entry_words}
use Rattle.entry_log.specs.Packed.{packed}
use Rattle.entry_log.proofs.Written.{packed-written}
use Rattle.entry_log.proofs.write_entry.Goals as goal

pub returns : goal.returns
returns c = let a = c.args in
    packed-written a.log.now _ (entry_words * a.e) c.packed.result a.kind a.first a.second a.bit
    (c.packed.ensures ∙ ap (λ k. packed k a.first a.second a.bit) c.from.ensures)
    (omega arith) c.requires.1 c.requires.2 c.write_packed.ensures
