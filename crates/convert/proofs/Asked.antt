-- What the converter comes to, from its questions.
-- Assumes nothing.
use mathlib.Core.Path.{◌≡◌, refl, sym, ap, ◌∙◌}
use mathlib.Core.List.{List}
use Prim.Native.Nat.{ℕ, ◌≤◌}
use lib.ListN.{length, take}
use Rattle.answers.specs.declared.Answer.{Answer}
use Rattle.answers.specs.Answers.{refusal, accepted}
use Rattle.answers.specs.Questions.{Verdict, all_yes, no_at, first_no, first_bad}
use Rattle.answers.specs.Outcomes.{outcome}
use Rattle.answers.specs.Buffers.{overlay}
use Rattle.answers.proofs.Questions.{yes_each}
use Rattle.answers.proofs.Buffers.{overlay_whole}
use Rattle.answers.proofs.Outcomes.{ends_refused, ends-accepted}
use Rattle.bits.specs.Bits.{is_bit}
use Rattle.counts.specs.Counts.{W}
use Rattle.network.specs.Blocks.{order_of}
use Rattle.network.proofs.Order.{length-order}
use Rattle.permutation.specs.Permutations.{IsPermutation}
use Rattle.questions.proofs.Asked.{few_yes, count_yes, bits_yes}
use Rattle.canonical.proofs.Orders.{order_permutation}
use Rattle.steps.specs.Setting.{setting_for}
use Rattle.wirings.specs.declared.Topology.{Topology}
use Rattle.wirings.specs.Nets.{wiring_of}
use Rattle.wirings.proofs.Halves.{lawful}
use Rattle.setting_order.proofs.Front.{order-front}
use Rattle.convert.specs.Calls.{across, convert_questions, converted, convert_call}

module _ (n : ℕ) (given out : List ℕ) where
  abbrev verdict : Verdict
  verdict = first_no (convert_questions n given out)

  pub yes_all : n ≤ 1024 → length given ≡ W n → length out ≡ W n → first_bad (is_bit given) (length given) ≡ length given → verdict ≡ all_yes
  unfolding convert_questions
  yes_all h1 h4 h4' h7 = yes_each (convert_questions n given out) (few_yes n h1, (count_yes n given h4, (count_yes n out h4', (bits_yes given h7, tt))))

  module _ (from : Topology) where
    -- a refused call: nothing is written
    pub refused : {q p : ℕ} → verdict ≡ no_at q p → outcome (refusal q p) out ≡ convert_call from n given out
    unfolding convert_call
    refused e = ends_refused _ _ _ _ e refl refl

    -- an accepted one: all of `out` is the other wiring's setting
    pub taken : {a : Answer} {out' : List ℕ} → verdict ≡ all_yes → a ≡ accepted 0 → length out' ≡ length out → out' ≡ converted from n given
        → outcome a out' ≡ convert_call from n given out
    unfolding convert_call
    taken e r long is =
        ends-accepted _ _ _ _ e r (is ∙ sym (overlay_whole out (converted from n given) (ap length (sym is) ∙ long)))

-- the order that the given setting carries stands at the front of a local array
module _ (from : Topology) (n : ℕ) (given zeros : List ℕ) {order : List ℕ}
    (e : order ≡ overlay zeros 0 (order_of (wiring_of from) n given)) where
  front : take n order ≡ order_of (wiring_of from) n given
  front = order-front (lawful from) n given zeros e

  -- so it can be set
  pub settable : (out : List ℕ) → n ≤ 1024 → length out ≡ W n
      → (length (take n order) ≤ 1024) × IsPermutation (length (take n order)) (take n order) × (length out ≡ W (length (take n order)))
  settable out few room = rw (front, length-order (lawful from) n given) (few, order_permutation (lawful from) n given, room)

  -- and what is set is the other wiring's
  pub set-across : {to : Topology} {out' : List ℕ} → to ≡ across from → out' ≡ setting_for (wiring_of to) (take n order)
      → out' ≡ converted from n given
  unfolding converted
  set-across is s = s ∙ rw (is, front)
