-- The converter: its questions, both ways, and what it leaves.
-- Assumes nothing.
use mathlib.Core.Path.{◌≡◌, refl, sym, ap, subst, ◌∙◌}
use mathlib.Core.List.{List}
use Prim.Native.Nat.{ℕ, ◌≤◌}
use borrow.Author.Tests.{leb-true, eqb-true}
use lib.ListN.{length}
use Rattle.answers.specs.declared.Answer.{Answer}
use Rattle.answers.specs.Answers.{accepted}
use Rattle.answers.specs.Questions.{Verdict, all_yes, first_no, first_bad}
use Rattle.answers.specs.Outcomes.{Outcome, outcome}
use Rattle.answers.proofs.Questions.{each_yes}
use Rattle.bits.specs.Bits.{is_bit}
use Rattle.bits.proofs.Bytes.{bits_all, all_bits_lem}
use Rattle.counts.specs.Counts.{W}
use Rattle.network.proofs.Alike.{moved_alike, moved_back_alike}
use Rattle.permutation.specs.Permutations.{IsPermutation}
use Rattle.canonical.proofs.Only.{canonical_length, canonical_bits, canonical_unique}
use Rattle.canonical.proofs.Carry.{canonical_order}
use Rattle.canonical.proofs.Orders.{order_permutation}
use Rattle.steps_canonical.proofs.Whole.{setting_canonical}
use Rattle.wirings.specs.declared.Topology.{Topology}
use Rattle.wirings.specs.declared.Topology.TheVariants.{Paper, Neighbour}
use Rattle.wirings.specs.Nets.{wiring_of}
use Rattle.wirings.proofs.Halves.{lawful}
use Rattle.convert.specs.Calls.{across, convert_questions, converted, convert_call}
use Rattle.convert.proofs.Asked.{yes_all, taken}
use Rattle.claims.specs.Calls.{Direction, mixing, returning, moved_by}
use Rattle.claims.specs.Carrying.{Setting}
use Rattle.claims.specs.Converting.{order_in, House, Converted}
use Rattle.claims.specs.PublicCalls.{converting}
use Rattle.claims.proofs.Carrying.{moves}
use Rattle.claims.proofs.PublicCalls.{demand1}

-- ---- the questions

-- what a yes to each says
record Fit (n : ℕ) (given out : List ℕ) : Type 0 where
  small : n ≤ 1024
  setting : Setting n given
  count : length out ≡ W n

module _ (n : ℕ) (given out : List ℕ) where
  abbrev asked : Verdict
  asked = first_no (convert_questions n given out)

  yes_fit : asked ≡ all_yes → Fit n given out
  unfolding convert_questions
  yes_fit e =
      let Y = each_yes (convert_questions n given out) e in
      record {
        small = leb-true n 1024 Y.0;
        setting =
            record {
              count = eqb-true (length given) (W n) Y.1.0;
              are_bits = bits_all given (eqb-true (first_bad (is_bit given) (length given)) (length given) Y.1.1.1.0);
            };
        count = eqb-true (length out) (W n) Y.1.1.0;
      }

  fit_yes : Fit n given out → asked ≡ all_yes
  fit_yes F = yes_all n given out F.small F.setting.count F.count (all_bits_lem given F.setting.are_bits)

-- ---- what is left

back_again : (t : Topology) → across (across t) ≡ t
unfolding across
back_again Paper = refl
back_again Neighbour = refl

module _ (from : Topology) (n : ℕ) (given : List ℕ) where
  abbrev order : List ℕ
  order = order_in from n given

  abbrev to : List ℕ
  to = converted from n given

  carried : IsPermutation n (order_in from n given)
  carried = order_permutation (lawful from) n given

  house : House (across from) n (order_in from n given) (converted from n given)
  unfolding converted
  house = rw carried.whole (setting_canonical (lawful (across from)) n order carried)

  only : (bits : List ℕ) → House (across from) n (order_in from n given) bits → bits ≡ converted from n given
  only bits H = canonical_unique (lawful (across from)) n order carried bits to H house

  to-setting : Setting n (converted from n given)
  to-setting =
      record {
        count = canonical_length (wiring_of (across from)) n order to house;
        are_bits = canonical_bits (lawful (across from)) n order carried to house;
      }

  same_order : order_in (across from) n (converted from n given) ≡ order_in from n given
  same_order = canonical_order (lawful (across from)) n order carried to house

  leaves : (out : List ℕ) → Fit n given out → convert_call from n given out ≡ outcome (accepted 0) (converted from n given)
  leaves out F = sym (taken n given out from (fit_yes n given out F) refl (to-setting.count ∙ sym F.count) refl)

  same_moved : (d : Direction) (width : ℕ) (blocks : List ℕ)
      → moved_by (wiring_of from) d n width given blocks ≡ moved_by (wiring_of (across from)) d n width (converted from n given) blocks
  same_moved mixing width blocks = moved_alike (lawful from) (lawful (across from)) n given to (sym same_order) width blocks
  same_moved returning width blocks = moved_back_alike (lawful from) (lawful (across from)) n given to (sym same_order) width blocks

-- what the converter left carries the order of what was given: so a house setting is that order's in its own wiring again
again : (from : Topology) (n : ℕ) (given order : List ℕ) → IsPermutation n order → House from n order given
    → House (across (across from)) n (order_in (across from) n (converted from n given)) given
again from n given order O H = rw (back_again from, same_order from n given, canonical_order (lawful from) n order O given H) H

module _ (from : Topology) (n : ℕ) (given out : List ℕ) (F : Fit n given out) where
  fit_converts : Converted from n given out (converted from n given)
  fit_converts =
      let to = converted from n given in
      let S = to-setting from n given in
      record {
        leaves = leaves from n given out F;
        left_setting = S;
        house = house from n given;
        only = only from n given;
        same_order = same_order from n given;
        there_and_back = λ order back O H b.
            leaves (across from) n to back (record { small = F.small; setting = S; count = b })
            ∙ ap (outcome (accepted 0)) (sym (only (across from) n to given (again from n given order O H)));
        same_blocks = λ d width blocks log other B r s.
            let A = moves from n given F.small F.setting width blocks log B r d in
            let Z = moves (across from) n to F.small S width blocks other B s d in
            record {
              first = ap (λ (a : Answer). a.number) A.answer;
              second = ap (λ (a : Answer). a.number) Z.answer;
              blocks = A.buffer ∙ same_moved from n given d width blocks ∙ sym Z.buffer;
            };
      }

-- every accepted call
pub convert_converts : (from : Topology) (n : ℕ) (given out : List ℕ) → (convert_call from n given out).answer.number ≡ 0
    → Converted from n given out (convert_call from n given out).buffer
convert_converts from n given out a =
    let C = fit_converts from n given out (yes_fit n given out ((demand1 (converting from n given out)).accepted_only a)) in
    subst (Converted from n given out) (sym (ap (λ (o : Outcome). o.buffer) C.leaves)) C
