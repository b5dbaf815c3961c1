-- What the questions of an accepted set say; those of mix and return: apply_questions, proofs/Asked; of a listed order: listed_order,
-- proofs/Asked.
-- Assumes nothing.
use mathlib.Core.Path.{◌≡◌}
use mathlib.Core.List.{List}
use Prim.Native.Nat.{ℕ, ◌*◌, ◌≤◌}
use native.Mathlib.Omega.{arith}
use lib.ListN.{length}
use borrow.Author.Tests.{leb-true, eqb-true, le-leb, eq-eqb}
use Rattle.answers.specs.Questions.{all_yes, first_no, Numbered}
use Rattle.answers.proofs.Questions.{each_yes, yes_each}
use Rattle.counts.specs.Counts.{W, E}
use Rattle.network.specs.Log.{entry_words}
use Rattle.permutation.specs.Permutations.{first_bad_entry, IsPermutation}
use Rattle.permutation.proofs.Permutations.{passes_permutation, permutation_passes}
use Rattle.control.specs.Calls.{set_questions}

pub record SetAsked (order bits log : List ℕ) : Type 0 where
  pub small : length order ≤ 1024
  pub bit_count : length bits ≡ W (length order)
  pub log_room : entry_words * E (length order) ≤ length log
  pub permutation : IsPermutation (length order) order

pub set-asked : (order bits log : List ℕ) → first_no (set_questions order bits log) ≡ all_yes → SetAsked order bits log
set-asked order bits log e =
    let n = length order in
    let Y = each_yes (set_questions order bits log) e in
    record {
      small = leb-true n 1024 Y.0;
      bit_count = eqb-true (length bits) (W n) Y.1.0;
      log_room = leb-true (entry_words * E n) (length log) Y.1.1.0;
      permutation = passes_permutation order (eqb-true (first_bad_entry order) n Y.1.1.1.0);
    }

pub set_passes : (order bits log : List ℕ) → SetAsked order bits log → first_no (set_questions order bits log) ≡ all_yes
set_passes order bits log A =
    let n = length order in
    yes_each (set_questions order bits log) (
      le-leb n 1024 A.small,
      (
        eq-eqb (length bits) (W n) A.bit_count,
        (
          le-leb (entry_words * E n) (length log) A.log_room,
          (eq-eqb (first_bad_entry order) n (permutation_passes n order A.permutation), tt),
        ),
      ),
    )

pub set_numbered : (order bits log : List ℕ) → Numbered (set_questions order bits log)
set_numbered order bits log = (omega arith, (omega arith, (omega arith, (omega arith, tt))))
