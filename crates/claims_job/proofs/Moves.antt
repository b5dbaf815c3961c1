-- mix, unmix and show with the sheet of an order's canonical setting. Moving blocks is demand 2's, without the logs.
-- Assumes nothing.
use mathlib.Core.Path.{◌≡◌, refl, sym, ap, ◌∙◌}
use mathlib.Core.List.{List}
use Prim.Native.Nat.{ℕ, ◌*◌, ◌≤◌}
use native.Mathlib.Omega.{arith}
use lib.ListN.{length, take, replicate, length-replicate}
use Rattle.std.specs.Prelude.{Ok}
use Rattle.answers.specs.Answers.{accepted}
use Rattle.answers.specs.Buffers.{overlay}
use Rattle.answers.specs.Outcomes.{Outcome, outcome}
use Rattle.answers.proofs.Buffers.{overlay_read}
use Rattle.counts.specs.Counts.{W}
use Rattle.counts.proofs.Most.{switches_few}
use Rattle.network.specs.Wiring.{paper}
use Rattle.network.specs.Log.{entry_words}
use Rattle.network.specs.Blocks.{moved, moved_back}
use Rattle.network.proofs.Paper.{paper_lawful}
use Rattle.permutation.specs.Permutations.{IsPermutation}
use Rattle.canonical.proofs.Carry.{canonical_order}
use Rattle.sheets.specs.Sheet.{sheet}
use Rattle.sheets.specs.declared.SettingSize.{SettingSize}
use Rattle.sheets.specs.Calls.{setting_outcome, read_setting}
use Rattle.wirings.specs.declared.Topology.TheVariants.{Paper}
use Rattle.wirings.specs.Nets.{wiring_of}
use Rattle.cmd_move.specs.Calls.{mix_call, unmix_call}
use Rattle.cmd_move.proofs.Moving.{move_settles}
use Rattle.cmd_show.specs.Show.{setting_text, show_call}
use Rattle.cmd_show.proofs.Showing.{show_done}
use Rattle.claims.specs.Calls.{Call, mixing, returning, mix, return, outcome_of}
use Rattle.claims.specs.Carrying.{Filled, RoomToMove, Demand2}
use Rattle.claims.proofs.Carrying.{moved_fill, sheets_read_back}
use Rattle.sheets.proofs.Setting.{setting_read}
use Rattle.claims_job.specs.Job.{Moves, shown}

module _ (n : ℕ) (order : List ℕ) (small : n ≤ 1024) (D : Demand2 Paper n order) where
  abbrev setting : List ℕ
  setting = D.house.setting

  abbrev made : List ℕ
  made = sheet n D.house.setting

  -- with room for the longest setting and the longest log, as the programs have it
  module _ (buffer log : List ℕ) (room : length buffer ≡ 9217) (log_room : length log ≡ entry_words * 9217) where
    abbrev size : SettingSize
    size = record { places = n; switches = W n }

    read : setting_outcome (Ok size) (overlay buffer 0 setting) ≡ read_setting made buffer
    read =
        setting_read made buffer room {n = n}
        (sym ((sheets_read_back n small).sheet_read setting buffer D.house_setting (omega (arith, room, switches_few n small)))) refl

    front : take (W n) (overlay buffer 0 setting) ≡ setting
    front =
        let long : length setting ≡ W n = D.house_setting.count in
        rw (← long) (overlay_read buffer setting)

    -- a call that keeps a log, without it
    abbrev unlogged : Call → Outcome
    unlogged c = outcome (outcome_of c).answer (outcome_of c).buffer

    mix_is : (width : ℕ) (blocks : List ℕ) → mix_call made width blocks ≡ unlogged (mix Paper n width blocks setting log)
    unfolding mix_call wiring_of
    mix_is width blocks =
        sym (move_settles (moved paper) made width blocks buffer {s = size} read (rw (front, log_room)))

    unmix_is : (width : ℕ) (blocks : List ℕ) → unmix_call made width blocks ≡ unlogged (return Paper n width blocks setting log)
    unfolding unmix_call wiring_of
    unmix_is width blocks =
        sym (move_settles (moved_back paper) made width blocks buffer {s = size} read (rw (front, log_room)))

    fits : RoomToMove n log
    fits = omega (arith, log_room, switches_few n small)

    module _ (width : ℕ) (blocks : List ℕ) (F : Filled n width blocks) where
      abbrev mixed : List ℕ
      mixed = (outcome_of (mix Paper n width blocks setting log)).buffer

      mixed_fill : Filled n width mixed
      mixed_fill = moved_fill Paper n setting small D.house_setting width blocks log F fits mixing

      returned : unmix_call made width (mix_call made width blocks).buffer ≡ outcome (accepted (W n)) blocks
      returned =
          ap (λ (o : Outcome). unmix_call made width o.buffer) (mix_is width blocks)
          ∙ unmix_is width mixed
          ∙ rw (D.move_accepted returning width mixed log mixed_fill fits)
          (ap (outcome (accepted (W n))) (D.returns width blocks log log F fits fits))

    moves_so : Moves n order made
    moves_so =
        record {
          mix_accepted = λ width blocks F.
              ap (λ (o : Outcome). o.answer) (mix_is width blocks) ∙ D.move_accepted mixing width blocks log F fits;
          carries = λ width blocks F i l. rw (mix_is width blocks) (D.carries width blocks log F fits i l);
          returns = returned;
        }

    text_is : IsPermutation n order → setting_text n (take (W n) (overlay buffer 0 setting)) ≡ shown n setting order
    unfolding setting_text wiring_of
    text_is O = ap (setting_text n) front ∙ ap (shown n setting) (canonical_order paper_lawful n order O setting D.house.canonical)

    shows_so : IsPermutation n order → (out : List ℕ)
        → show_call made out ≡ outcome (accepted (length (shown n setting order))) (overlay out 0 (shown n setting order))
    shows_so O out =
        let text = setting_text n (take (W n) (overlay buffer 0 setting)) in
        let is : outcome (accepted (length text)) (overlay out 0 text) ≡ show_call made out =
        show_done made out buffer {s = size} read (record { place = omega arith; buffer = refl })
        in
        sym is ∙ ap (λ t. outcome (accepted (length t)) (overlay out 0 t)) (text_is O)

  pub moves : Moves n order (sheet n D.house.setting)
  moves = moves_so (replicate 9217 0) (replicate (entry_words * 9217) 0) (length-replicate {A = ℕ} 9217 0) (length-replicate {A = ℕ} (entry_words * 9217) 0)

  pub shows : IsPermutation n order → (out : List ℕ) → show_call (sheet n D.house.setting) out
      ≡ outcome (accepted (length (shown n D.house.setting order))) (overlay out 0 (shown n D.house.setting order))
  shows = shows_so (replicate 9217 0) (replicate (entry_words * 9217) 0) (length-replicate {A = ℕ} 9217 0) (length-replicate {A = ℕ} (entry_words * 9217) 0)
