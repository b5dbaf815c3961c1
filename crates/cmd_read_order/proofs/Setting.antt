-- Setting an order after question 6.
-- Assumes nothing.
use mathlib.Core.Path.{◌≡◌, sym, ap, ◌∙◌}
use mathlib.Core.List.{List, [], ◌++◌}
use Prim.Native.Nat.{ℕ}
use lib.Dec.{eqb}
use lib.ListN.{length, drop}
use borrow.Author.Tests.{eq-eqb, ne_eqb, eqb-true}
use Rattle.std.specs.Prelude.{Ok, Err}
use Rattle.answers.specs.declared.Reason.TheVariants.{Entry}
use Rattle.answers.specs.Answers.{accepted}
use Rattle.answers.specs.Questions.{all_yes, first_no}
use Rattle.answers.specs.Outcomes.{outcome, settled}
use Rattle.answers.proofs.Questions.{asked_yes, asked_no, passed}
use Rattle.answers.proofs.Buffers.{overlay-front}
use Rattle.counts.specs.Counts.{W, E}
use Rattle.network.specs.Wiring.{paper}
use Rattle.network.proofs.Paper.{paper_lawful}
use Rattle.permutation.specs.Permutations.{first_bad_entry}
use Rattle.permutation.proofs.Permutations.{passes_permutation}
use Rattle.steps.specs.Setting.{setting_for}
use Rattle.steps_canonical.proofs.Setting.{setting-length as length-setting}
use Rattle.cmd_read_order.specs.Orders.{entry_questions, reported, entries_logged, set_report, report_of}

-- the setting of an order that passes question 6 has W bits
pub setting-length : (order : List ℕ) → first_no (entry_questions order) ≡ all_yes → length (setting_for paper order) ≡ W (length order)
setting-length order y =
    let n = length order in
    let all = eqb-true (first_bad_entry order) n (passed 6 (first_bad_entry order) (eqb (first_bad_entry order) n) [] y).here in
    length-setting paper_lawful n order (passes_permutation order all)

module _ (order bits : List ℕ) where
  pub set_refused : (first_bad_entry order ≡ length order → ⊥)
      → report_of (Err (record { reason = Entry; place = first_bad_entry order })) bits ≡ set_report (entry_questions order) (length order) order bits
  set_refused h =
      let bad = first_bad_entry order in
      let no = asked_no 6 bad (eqb bad (length order)) [] (ne_eqb bad (length order) h) in
      sym (ap (λ v. reported (settled v (length order) (setting_for paper order) bits) (entries_logged v (length order))) no)

  pub set_accepted : {b : List ℕ} {w n : ℕ} → first_bad_entry order ≡ length order → w ≡ W (length order) → n ≡ E (length order)
      → b ≡ setting_for paper order
      → report_of (Ok (record { places = length order; entries = n })) (b ++ drop w bits) ≡ set_report (entry_questions order) (length order) order bits
  set_accepted h f g s =
      let bad = first_bad_entry order in
      let yes = asked_yes 6 bad (eqb bad (length order)) [] (eq-eqb bad (length order) h) in
      let S = setting_for paper order in
      let long : length S ≡ W (length order) = setting-length order yes in
      rw (s, g, f, ← long)
      (ap (λ b. reported (outcome (accepted (length order)) b) (E (length order))) (sym (overlay-front bits S)))
      ∙ sym (ap (λ v. reported (settled v (length order) S bits) (entries_logged v (length order))) yes)
