-- THE JOB'S THEOREM: what draw writes, sheet takes; what sheet writes, mix and unmix take; and the blocks go where the order
-- says, and back.
-- Assumes nothing.
use mathlib.Core.Path.{◌≡◌, sym, ap, ◌∙◌}
use mathlib.Core.Bool.{true}
use mathlib.Core.List.{List, [], ◌∷◌}
use Prim.Native.Nat.{ℕ, ◌+◌, ◌-◌, ◌*◌, ◌/◌, ◌^◌, ◌≤◌, ◌<◌, min}
use native.Mathlib.Omega.{arith}
use borrow.Author.Tests.{le-leb, eqb-true}
use lib.Dec.{eqb}
use lib.ListN.{length}
use Rattle.answers.specs.Answers.{accepted}
use Rattle.answers.specs.Buffers.{overlay}
use Rattle.answers.specs.Outcomes.{Outcome, outcome}
use Rattle.answers.proofs.Questions.{passed, BothPass, both_pass}
use Rattle.answers.proofs.Buffers.{overlay_read}
use Rattle.counts.specs.Counts.{W}
use Rattle.counts.proofs.Most.{switches_few}
use Rattle.network.specs.Wiring.{paper}
use Rattle.network.proofs.Paper.{paper_lawful}
use Rattle.permutation.specs.Permutations.{IsPermutation, first_bad_entry}
use Rattle.permutation.proofs.Permutations.{passes_permutation}
use Rattle.permutation.proofs.Tables.{length-tabulate, tabulate-at}
use Rattle.shuffle_fair.specs.Words.{Chosen, chosen}
use Rattle.shuffle_fair.proofs.Words.{low-words}
use Rattle.shuffle.specs.Shuffled.{order_from}
use Rattle.shuffle.proofs.Accepted.{order_permutation}
use Rattle.steps_canonical.proofs.Whole.{setting_canonical}
use Rattle.numbers.specs.Numbers.{sevens}
use Rattle.numbers.proofs.Numbers.{bytes_few}
use Rattle.rows.proofs.Rows.{numbers_length, bytes_most}
use Rattle.sheets.specs.Sheet.{sheet}
use Rattle.sheets.proofs.Writing.{sheet-length}
use Rattle.steps.specs.Setting.{setting_for}
use Rattle.cmd_read_order.specs.Orders.{count_in, entries_at, order_in, form_questions, entry_questions, order_questions}
use Rattle.cmd_read_order.proofs.Asking.{places_small}
use Rattle.cmd_draw.specs.Draw.{word_at, bytes_for, words_in, order_bytes, draw_questions, draw_from, draw_call}
use Rattle.cmd_draw.proofs.Drawn.{wanted}
use Rattle.cmd_sheet.specs.Calls.{sheet_for, sheet_call}
use Rattle.wirings.specs.declared.Topology.TheVariants.{Paper}
use Rattle.wirings.specs.Nets.{wiring_of}
use Rattle.claims.specs.Carrying.{Demand2}
use Rattle.claims.proofs.Carrying.{demand2}
use Rattle.claims_job.specs.Job.{written, Holds, Drawn, Made, Job}
use Rattle.claims_job.proofs.Orders.{order_holds}
use Rattle.claims_job.proofs.Moves.{moves, shows}

-- ---- draw

module _ (n : ℕ) (bytes : List ℕ) (small : n ≤ 1024) where
  enough_words : 4 * n ≤ length bytes → ((i : ℕ) → i < n → word_at bytes i < 2 ^ 32 - 1023) → (chosen n (words_in n bytes)).enough ≡ true
  enough_words long low =
      let count = min (bytes_for n) (length bytes) / 4 in
      let read : bytes_for n ≡ 4 * (n + 64) = sym (wanted n small) in
      let there : n ≤ count = omega (arith, read) in
      ap (λ (c : Chosen). c.enough)
      (low-words n (words_in n bytes) small (omega (arith, there, length-tabulate (word_at bytes) count))
      (λ i l. rw (tabulate-at (word_at bytes) count i (omega arith)) (low i l)))

  module _ (out : List ℕ) (enough : (chosen n (words_in n bytes)).enough ≡ true) where
    abbrev order : List ℕ
    order = order_from n (words_in n bytes)

    permutation : IsPermutation n order
    permutation = order_permutation n (words_in n bytes) enough

    draw_is : draw_call n bytes out ≡ outcome (accepted (length (order_bytes order))) (overlay out 0 (order_bytes order))
    unfolding draw_call draw_from draw_questions
    draw_is = rw (le-leb n 1024 small, enough)

    wrote_order : written (draw_call n bytes out) ≡ order_bytes order
    wrote_order = rw draw_is (overlay_read out (order_bytes order))

    draws : Drawn n order (draw_call n bytes out)
    unfolding order_bytes
    draws =
        record {
          permutation = permutation;
          draw_accepted = ap (λ (o : Outcome). o.answer) draw_is;
          order_written = rw wrote_order (order_holds n order small permutation);
          order_fits = rw wrote_order (omega (arith, bytes_most sevens (λ v. (bytes_few v).1) (length order ∷ order), permutation.whole));
        }

-- ---- sheet

module _ (n : ℕ) (order input out : List ℕ) (H : Holds n order input) where
  both : BothPass (form_questions input) (entry_questions (order_in input))
  unfolding order_questions
  both = both_pass (form_questions input) (entry_questions (order_in input)) H.asked

  small : n ≤ 1024
  small = rw H.places at (places_small input both.first)

  held : IsPermutation n order
  held =
      let es = order_in input in
      let bad = first_bad_entry es in
      let all = eqb-true bad (length es) (passed 6 bad (eqb bad (length es)) [] both.second).here in
      let long : length es ≡ n = numbers_length sevens input (count_in input) (entries_at input) ∙ H.places in
      rw H.entries at (rw long at (passes_permutation es all))

  D : Demand2 Paper n order
  D = demand2 Paper n order small held

  setting_is : setting_for paper order ≡ D.house.setting
  unfolding wiring_of
  setting_is = rw held.whole (D.house.only _ (setting_canonical paper_lawful n order held))

  abbrev made : List ℕ
  made = sheet n D.house.setting

  made_is : sheet_for input ≡ made
  made_is =
      ap (λ m. sheet m (setting_for paper (order_in input))) H.places
      ∙ ap (λ es. sheet n (setting_for paper es)) H.entries
      ∙ ap (sheet n) setting_is

  sheet_is : sheet_call input out ≡ outcome (accepted (length made)) (overlay out 0 made)
  unfolding sheet_call
  sheet_is = rw (H.asked, made_is)

  wrote : written (sheet_call input out) ≡ made
  wrote = rw sheet_is (overlay_read out made)

  makes : Made n order (sheet_call input out)
  unfolding wiring_of
  makes =
      let long : length D.house.setting ≡ W n = D.house_setting.count in
      record {
        permutation = held;
        house = D.house;
        sheet_accepted = ap (λ (o : Outcome). o.answer) sheet_is;
        sheet_written = wrote;
        sheet_fits = rw wrote (omega (arith, sheet-length n D.house.setting, long, switches_few n small));
        moves = rw wrote (moves n order small D);
        shows = λ text. rw wrote (shows n order small D held text);
      }

pub job : Job
job = record { drawn = λ n bytes out small. draws n bytes small out; enough = enough_words; taken = order_holds; done = makes }
