-- Demand 2: for every order of at most 1,024 places, in every wiring.
-- Assumes nothing.
use mathlib.Core.Path.{◌≡◌, sym, ap, subst, ◌∙◌}
use mathlib.Core.List.{List, []}
use Prim.Native.Nat.{ℕ, ◌≤◌, ◌<◌}
use native.Mathlib.Omega.{arith}
use lib.ListN.{length, get_or}
use Rattle.answers.specs.Answers.{accepted}
use Rattle.answers.specs.Questions.{all_yes}
use Rattle.counts.specs.Counts.{W, E}
use Rattle.network.specs.Network.{network}
use Rattle.network.specs.Blocks.{cut, moved_back}
use Rattle.network.proofs.Blocks.{length_cut}
use Rattle.network.proofs.Moved.{cut_moved, cut-moved_back, moved_back-moved}
use Rattle.permutation.specs.Permutations.{IsPermutation}
use Rattle.canonical.specs.Rule.{Canonical, ExactlyOne}
use Rattle.canonical.specs.Carry.{Carries, BringsHome}
use Rattle.canonical.proofs.Only.{exactly_one, canonical_length, canonical_bits}
use Rattle.canonical.proofs.Carry.{canonical_carries, canonical_brings_home}
use Rattle.sheets.proofs.Round.{write_accepts, sheet_read}
use Rattle.wirings.specs.declared.Topology.{Topology}
use Rattle.wirings.specs.Nets.{wiring_of}
use Rattle.wirings.proofs.Halves.{lawful}
use Rattle.apply_questions.proofs.Asked.{fit_passes}
use Rattle.claims.specs.Calls.{Direction, mixing, returning, set, move, mix, return, moved_by, outcome_of, due_entries}
use Rattle.claims.specs.Carrying.{block, Setting, Filled, RoomToSet, RoomToMove, Demand2, SheetsReadBack}
use Rattle.claims.proofs.Asked.{set_passes}
use Rattle.claims.proofs.Settled.{Left}
use Rattle.claims.proofs.Demands.{asked, leaves, left_right, length-moved_by}

-- ---- blocks moved by any setting

module _
    (t : Topology) (n : ℕ) (bits : List ℕ) (small : n ≤ 1024) (S : Setting n bits)
    (width : ℕ) (blocks log : List ℕ) (F : Filled n width blocks) (r : RoomToMove n log)
  where
    pub moves : (d : Direction)
        → Left (W n) (moved_by (wiring_of t) d n width bits blocks) (due_entries (move t d n width blocks bits log)) log
        (outcome_of (move t d n width blocks bits log))
    moves d =
        leaves (move t d n width blocks bits log)
        (fit_passes
        (record {
          places = small;
          low = F.some_width;
          high = F.width_small;
          whole = F.blocks_fill;
          count = S.count;
          words = r;
          settings = S.are_bits;
        }))

    -- what is left is as many blocks
    pub moved_fill : (d : Direction) → Filled n width (outcome_of (move t d n width blocks bits log)).buffer
    moved_fill d =
        record {
          some_width = F.some_width;
          width_small = F.width_small;
          blocks_fill = ap length (moves d).buffer ∙ length-moved_by (lawful t) d n width bits blocks F.blocks_fill;
        }

-- ---- an order

module _ (t : Topology) (n : ℕ) (order : List ℕ) (small : n ≤ 1024) (O : IsPermutation n order) where
  house : ExactlyOne (wiring_of t) n order
  house = exactly_one (lawful t) n order O

  house_setting : Setting n house.setting
  house_setting =
      record {
        count = canonical_length (wiring_of t) n order house.setting house.canonical;
        are_bits = canonical_bits (lawful t) n order O house.setting house.canonical;
      }

  -- ---- set

  module _ (bits log : List ℕ) (b : length bits ≡ W n) (r : RoomToSet n log) where
    set_yes : asked (set t order bits log) ≡ all_yes
    set_yes =
        set_passes order bits log
        (record {
          small = omega (arith, O.whole);
          bit_count = b ∙ ap W (sym O.whole);
          log_room = omega (arith, r, ap E O.whole);
          permutation = rw O.whole O;
        })

    set_accepted : (outcome_of (set t order bits log)).answer ≡ accepted (E n)
    set_accepted = (leaves (set t order bits log) set_yes).answer ∙ ap (λ (j : ℕ). accepted (E j)) O.whole

    set-setting : (outcome_of (set t order bits log)).buffer ≡ house.setting
    set-setting =
        let left = (outcome_of (set t order bits log)).buffer in
        house.only left
        (subst (λ j. Canonical (wiring_of t) (network j) order left) O.whole (left_right (set t order bits log) set_yes))

  -- ---- mix and return

  module _ (width : ℕ) (blocks log : List ℕ) (F : Filled n width blocks) (r : RoomToMove n log) where
    by_house : (d : Direction)
        → Left (W n) (moved_by (wiring_of t) d n width house.setting blocks)
        (due_entries (move t d n width blocks house.setting log)) log (outcome_of (move t d n width blocks house.setting log))
    by_house = moves t n house.setting small house_setting width blocks log F r

    carried : (i : ℕ) → i < n
        → block n width (outcome_of (mix t n width blocks house.setting log)).buffer (get_or order i 0) ≡ block n width blocks i
    unfolding Carries
    carried i l =
        rw ((by_house mixing).buffer, cut_moved (lawful t) n width house.setting blocks F.blocks_fill)
        (canonical_carries (lawful t) n order O house.setting house.canonical [] (cut width n blocks) (length_cut width n blocks) i l)

    brought : (i : ℕ) → i < n
        → block n width (outcome_of (return t n width blocks house.setting log)).buffer i ≡ block n width blocks (get_or order i 0)
    unfolding BringsHome
    brought i l =
        rw ((by_house returning).buffer, cut-moved_back (lawful t) n width house.setting blocks F.blocks_fill)
        (canonical_brings_home (lawful t) n order O house.setting house.canonical [] (cut width n blocks)
        (length_cut width n blocks) i l)

    abbrev mixed : List ℕ
    mixed = (outcome_of (mix t n width blocks house.setting log)).buffer

    returned : (other : List ℕ) → RoomToMove n other → (outcome_of (return t n width mixed house.setting other)).buffer ≡ blocks
    returned other s =
        let filled : Filled n width mixed = moved_fill t n house.setting small house_setting width blocks log F r mixing in
        (moves t n house.setting small house_setting width mixed other filled s returning).buffer
        ∙ ap (moved_back (wiring_of t) n width house.setting) (by_house mixing).buffer
        ∙ moved_back-moved (lawful t) n width house.setting blocks F.blocks_fill

  pub demand2 : Demand2 t n order
  demand2 =
      record {
        house = house;
        house_setting = house_setting;
        set_accepted = set_accepted;
        set_leaves = set-setting;
        move_accepted = λ d width blocks log F r. (by_house width blocks log F r d).answer;
        carries = carried;
        brings_home = brought;
        returns = λ width blocks log other F r s. returned width blocks log F r other s;
      }

-- ---- sheets

pub sheets_read_back : (n : ℕ) → n ≤ 1024 → SheetsReadBack n
sheets_read_back n small =
    record {
      sheet_written = λ bits out S r. write_accepts n bits out
          (record { few = small; count = S.count; are_bits = S.are_bits; room = r });
      sheet_read = λ bits buffer S r. sheet_read n bits small S.count S.are_bits buffer r;
    }
