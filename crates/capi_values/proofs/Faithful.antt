-- Entries cross whole: lent ones are the record that `records` makes of the same list, and a record's list comes back.
-- Assumes nothing.
use mathlib.Core.Path.{◌≡◌, refl, sym, ◌∙◌}
use mathlib.Core.List.{List}
use Prim.Native.Nat.{ℕ, ◌-◌, ◌≤◌, ◌<◌}
use native.Mathlib.Omega.{arith}
use native.Mathlib.Decide.{dec_lt}
use lib.ListN.{length, get_or, replicate, get_or-append, get_or-eq_default}
use Rattle.permutation.specs.Permutations.{tabulate, fixed_points}
use Rattle.records.specs.Records.{record_of}
use Rattle.records.specs.declared.Reply.{Reply}
use Rattle.permutation.proofs.Tables.{length-tabulate, tabulate-at, is_tabulate}
use Rattle.record_entries.proofs.Entries.{is_padded_of}
use Rattle.records.proofs.Records.{is_record_of}
use Rattle.capi_values.specs.Crossing.{record_in, lending, spread, lent}
use Rattle.capi_values.proofs.Crossing.{lent-accepted}

module _ (es : List ℕ) where
  abbrev entry : ℕ → ℕ
  entry i = get_or es i 0

  past : (i : ℕ) → length es ≤ i → get_or (tabulate entry 1024) i 0 ≡ 0
  past i l = go (dec_lt i 1024)
    where
      go : Dec (i < 1024) → get_or (tabulate entry 1024) i 0 ≡ 0
      go (yes m) = tabulate-at entry 1024 i m ∙ get_or-eq_default es 0 l
      go (no m) = get_or-eq_default (tabulate entry 1024) 0 (omega (arith, length-tabulate entry 1024))

  -- the record that the calls are handed, where its number is true
  pub record_in_lem : length es ≤ 1024 → record_in es (fixed_points es) ≡ record_of es
  unfolding record_in
  record_in_lem small =
      is_record_of (length es) es refl
      (is_padded_of (length es) (tabulate entry 1024) es (length-tabulate entry 1024) small refl
      (λ i l. tabulate-at entry 1024 i (omega arith)) past)
      refl

  pub spread-back : spread (record_of es) (length es) ≡ es
  unfolding record_of
  spread-back = sym (is_tabulate _ (length es) es refl (λ i l. sym (get_or-append es (replicate (1024 - length es) 0) 0 i l)))

-- an accepted call that gives the record of a list leaves that list, and tells its number
pub list_lent : (r : Reply) (entries es : List ℕ) → r.answer.number ≡ 0 → r.permutation ≡ record_of es → length es ≡ length entries
    → lent r entries ≡ lending (record { answer = r.answer; fixed = fixed_points es }) es
unfolding record_of
list_lent r entries es n gives same =
    sym (lent-accepted r entries (rw gives) n (sym (spread-back es) ∙ rw (gives, same)))
