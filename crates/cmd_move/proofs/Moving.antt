-- From a sheet that was read to blocks that are moved. One law for both directions.
-- Assumes nothing.
use mathlib.Core.Path.{◌≡◌, refl, ap, ◌∙◌}
use mathlib.Core.List.{List}
use Prim.Native.Nat.{ℕ, ◌*◌}
use lib.ListN.{length, take}
use Rattle.std.specs.Prelude.{Ok, Err}
use Rattle.answers.specs.declared.Answer.{Answer}
use Rattle.answers.specs.declared.Refusal.{Refusal}
use Rattle.answers.specs.Answers.{answer_from}
use Rattle.answers.specs.Questions.{first_no}
use Rattle.answers.specs.Outcomes.{outcome, Logged, logged, settled}
use Rattle.answers.proofs.Questions.{asked-both, asked-first}
use Rattle.answers.proofs.Outcomes.{ends_refused}
use Rattle.counts.specs.Counts.{W}
use Rattle.sheets.specs.declared.SettingSize.{SettingSize}
use Rattle.sheets.specs.Calls.{places_in, read_questions, setting_in, setting_outcome, read_setting}
use Rattle.sheets.proofs.Setting.{setting_stops, setting_asked, setting_places, setting_there}
use Rattle.network.specs.Log.{entry_words}
use Rattle.apply_questions.specs.Questions.{apply_questions}
use Rattle.cmd_move.specs.Calls.{move_questions, move_call}

-- the blocks that a direction moves, after the setting was read into the bits
module _
    (direction : ℕ → ℕ → List ℕ → List ℕ → List ℕ) (sheet : List ℕ) (width : ℕ) (blocks before : List ℕ) {bits : List ℕ}
  where
    pub move_refused : (r : Refusal) → setting_outcome (Err r) bits ≡ read_setting sheet before
        → outcome (answer_from (Err r)) blocks ≡ move_call direction sheet width blocks
    unfolding move_questions
    move_refused r R =
        ends_refused (first_no (move_questions sheet width (length blocks))) _ _ blocks
        (asked-first (read_questions sheet 9217) (apply_questions (places_in sheet) width (length blocks) (setting_in sheet) (entry_words * 9217))
        (setting_stops sheet before r R))
        refl refl

    pub move_settles :
        {s : SettingSize} {a : Answer} {after : List ℕ}
        → setting_outcome (Ok s) bits ≡ read_setting sheet before
        → outcome a after
        ≡ settled (first_no (apply_questions s.places width (length blocks) (take s.switches bits) (entry_words * 9217))) (W s.places)
        (direction s.places width (take s.switches bits) blocks) blocks
        → outcome a after ≡ move_call direction sheet width blocks
    unfolding move_questions
    move_settles R r =
        let move = apply_questions (places_in sheet) width (length blocks) (setting_in sheet) (entry_words * 9217) in
        r
        ∙ rw (setting_there sheet before R, setting_places sheet before R, asked-both (read_questions sheet 9217) move (setting_asked sheet before R))

-- what a call that keeps a log comes to, without the log
pub unlogged : {a : Answer} {b l : List ℕ} {L : Logged} → logged a b l ≡ L → outcome a b ≡ outcome L.answer L.buffer
unlogged e = ap (λ o. outcome o.answer o.buffer) e
