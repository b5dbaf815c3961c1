-- The call from its questions: what they say, a refusal, and the accepted call.
-- Assumes nothing.
use mathlib.Core.Path.{◌≡◌, sym, ap, ◌∙◌}
use mathlib.Core.List.{List, ◌++◌}
use Prim.Native.Nat.{ℕ, ◌*◌, ◌≤◌, ◌<◌}
use native.Mathlib.Omega.{arith}
use lib.ListN.{length, drop}
use borrow.Author.Tests.{ltb-true, lt-ltb}
use Rattle.answers.specs.Answers.{refusal, accepted}
use Rattle.answers.specs.Questions.{all_yes, no_at, first_no, Numbered}
use Rattle.answers.specs.Buffers.{overlay}
use Rattle.answers.proofs.Questions.{each_yes, yes_each}
use Rattle.answers.proofs.Buffers.{overlay-front, overlay_whole}
use Rattle.counts.specs.Counts.{W, E}
use Rattle.network.specs.Wiring.{paper}
use Rattle.network.specs.Log.{entry_words, words}
use Rattle.questions.proofs.Asked.{listable_yes, listable_means, room_yes, room_means, count_yes, count_means, log_yes, log_means}
use Rattle.steps.specs.Sequence.{set_entries}
use Rattle.steps.specs.Setting.{setting_for}
use Rattle.setter.specs.Inner.{Sets}
use Rattle.orders_listed.specs.Ranks.{factorial, order_at}
use Rattle.orders_listed.proofs.OrderAt.{length_order_at}
use Rattle.listed_order.specs.Calls.{ranked_questions, ranked, ranked_call}

-- what the questions of an accepted call say
pub record RankAsked (n r : ℕ) (list bits log : List ℕ) : Type 0 where
  pub small : n ≤ 6
  pub rank_below : r < factorial n
  pub room : n ≤ length list
  pub bit_count : length bits ≡ W n
  pub log_room : entry_words * E n ≤ length log

module _ (n r : ℕ) (list bits log : List ℕ) where
  pub rank_asked : first_no (ranked_questions n r list bits log) ≡ all_yes → RankAsked n r list bits log
  rank_asked e =
      let Y = each_yes (ranked_questions n r list bits log) e in
      record {
        small = listable_means n Y.0;
        rank_below = ltb-true r (factorial n) Y.1.0;
        room = room_means n (length list) Y.1.1.0;
        bit_count = count_means n bits Y.1.1.1.0;
        log_room = log_means (E n) (length log) Y.1.1.1.1.0;
      }

  pub rank_passes : RankAsked n r list bits log → first_no (ranked_questions n r list bits log) ≡ all_yes
  rank_passes A =
      let below = lt-ltb r (factorial n) A.rank_below in
      let room = room_yes n (length list) A.room in
      let count = count_yes n bits A.bit_count in
      let log_room = log_yes (E n) (length log) A.log_room in
      yes_each (ranked_questions n r list bits log) (listable_yes n A.small, (below, (room, (count, (log_room, tt)))))

  pub rank_numbered : Numbered (ranked_questions n r list bits log)
  rank_numbered = (omega arith, (omega arith, (omega arith, (omega arith, (omega arith, tt)))))

  -- a refused call: nothing is written
  pub refused : {q p : ℕ} → first_no (ranked_questions n r list bits log) ≡ no_at q p → ranked (refusal q p) list bits log ≡ ranked_call n r list bits log
  unfolding ranked_call
  refused e = rw e

  -- an accepted call: the order over the front of its list, and what the setter left
  module _
      (Y : RankAsked n r list bits log) {order bits' log' : List ℕ} {count : ℕ}
      (o : order ≡ order_at n r) (S : Sets order log count bits' log')
    where
      long : length order ≡ n
      long = ap length o ∙ length_order_at n r

      front : order ++ drop n list ≡ overlay list 0 (order_at n r)
      front = ap (λ m. order ++ drop m list) (sym long) ∙ sym (overlay-front list order) ∙ ap (overlay list 0) o

      filled : length bits' ≡ length bits → bits' ≡ overlay bits 0 (setting_for paper (order_at n r))
      filled k =
          let e : bits' ≡ setting_for paper (order_at n r) = S.bits_are ∙ ap (setting_for paper) o in
          e ∙ sym (overlay_whole bits (setting_for paper (order_at n r)) (ap length (sym e) ∙ k))

      logged : log' ≡ overlay log 0 (words (set_entries paper n))
      logged = S.log_is ∙ ap (λ m. overlay log 0 (words (set_entries paper m))) long

      pub taken : length bits' ≡ length bits → ranked (accepted count) (order ++ drop n list) bits' log' ≡ ranked_call n r list bits log
      unfolding ranked_call
      taken k =
          let told : accepted count ≡ accepted (E n) = ap accepted (S.count ∙ ap E long) in
          rw (rank_passes Y) (λ i. ranked (told i) (front i) (filled k i) (logged i))
