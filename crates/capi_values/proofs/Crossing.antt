-- What crosses is what the call gave.
-- Assumes nothing.
use mathlib.Core.Path.{◌≡◌}
use mathlib.Core.Logic.{◌≢◌}
use mathlib.Core.List.{List}
use Prim.Native.Nat.{ℕ}
use lib.ListN.{length}
use borrow.Author.Tests.{eq-eqb, ne_eqb}
use Rattle.records.specs.declared.Reply.{Reply}
use Rattle.capi_values.specs.Crossing.{Told, told, lending, spread, lent}

-- ---- a reply and the lent entries

module _ (r : Reply) (entries : List ℕ) {t : Told} (same : t ≡ told r) where
  pub lent_refused : r.answer.number ≢ 0 → lending t entries ≡ lent r entries
  unfolding lent
  lent_refused n = rw (same, ne_eqb r.answer.number 0 n)

  pub lent-accepted : r.answer.number ≡ 0 → {after : List ℕ} → after ≡ spread r.permutation (length entries)
      → lending t after ≡ lent r entries
  unfolding lent
  lent-accepted n e = rw (same, eq-eqb r.answer.number 0 n, e)
