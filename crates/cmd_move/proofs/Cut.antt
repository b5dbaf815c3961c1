-- The programs read at most 1,321 bytes of a sheet, and do with them what they would do with the whole; and at most 262,145 bytes of
-- blocks: with more they would refuse alike.
-- Assumes nothing.
use mathlib.Core.Path.{◌≡◌, refl, sym, ◌∙◌}
use mathlib.Core.Bool.{Bool, true, ◌&&◌, and-eq-true_iff}
use mathlib.Core.List.{List, [], ◌∷◌, ◌++◌}
use Prim.Native.Nat.{ℕ, ◌*◌, ◌≤◌}
use native.Mathlib.Nat.{mul-le-mul}
use native.Mathlib.Omega.{arith}
use lib.Dec.{leb, eqb}
use lib.ListN.{length, take}
use borrow.Author.Tests.{leb-true, ne_eqb}
use Rattle.answers.specs.Questions.{Question, ask, ask_each, all_yes, no_at, first_no}
use Rattle.answers.proofs.Questions.{asked_no, asked-first, never, passed, both_pass}
use Rattle.bits.specs.Bits.{is_bit}
use Rattle.counts.specs.Counts.{W}
use Rattle.network.specs.Wiring.{paper}
use Rattle.network.specs.Log.{entry_words}
use Rattle.network.specs.Blocks.{moved, moved_back}
use Rattle.rows.proofs.Reach.{both_alike, one_alike, SameNo, same_no, enough}
use Rattle.sheets.specs.Sheet.{sheet_room}
use Rattle.sheets.specs.Calls.{places_in, read_questions, setting_in}
use Rattle.sheets.proofs.Cut.{read_cut}
use Rattle.apply_questions.specs.Questions.{apply_questions}
use Rattle.cmd_move.specs.Calls.{blocks_room, move_questions, move_call, mix_call, unmix_call}

module _ (direction : ℕ → ℕ → List ℕ → List ℕ → List ℕ) (sheet : List ℕ) (width : ℕ) (blocks : List ℕ) where
  -- a sheet that is refused decides alone
  stopped : (bytes : List ℕ) {q p : ℕ} → first_no (read_questions bytes 9217) ≡ no_at q p
      → first_no (move_questions bytes width (length blocks)) ≡ no_at q p
  unfolding move_questions
  stopped bytes e =
      asked-first (read_questions bytes 9217) (apply_questions (places_in bytes) width (length blocks) (setting_in bytes) (entry_words * 9217)) e

  move_cut : move_call direction (take sheet_room sheet) width blocks ≡ move_call direction sheet width blocks
  move_cut =
      enough (λ bytes. move_call direction bytes width blocks) sheet_room sheet (λ long.
      let C = read_cut sheet 9217 long in
      rw (stopped (take sheet_room sheet) C.first, stopped sheet C.second))

pub mix-cut : (sheet : List ℕ) (width : ℕ) (blocks : List ℕ)
    → mix_call (take sheet_room sheet) width blocks ≡ mix_call sheet width blocks
unfolding mix_call
mix-cut = move_cut (moved paper)

pub unmix_cut : (sheet : List ℕ) (width : ℕ) (blocks : List ℕ)
    → unmix_call (take sheet_room sheet) width blocks ≡ unmix_call sheet width blocks
unfolding unmix_call
unmix_cut = move_cut (moved_back paper)

-- ---- more blocks than a month can have

module _ (n width : ℕ) (bits : List ℕ) (log : ℕ) where
  abbrev bits_asked : List Question
  bits_asked = ask 4 0 (eqb (length bits) (W n)) ∷ ask 5 0 (leb (entry_words * W n) log) ∷ ask_each 7 (is_bit bits) (length bits) ∷ []

  abbrev width_fits : Bool
  width_fits = leb 1 width && leb width 256

  abbrev blocks_asked : ℕ → List Question
  blocks_asked filled = ask 3 0 (eqb filled (n * width)) ∷ bits_asked

  module _ (few : leb n 1024 ≡ true) (narrow : width_fits ≡ true) where
    unfilled : (filled : ℕ) → blocks_room ≤ filled → filled ≡ n * width → ⊥
    unfilled filled h e =
        let thin = leb-true width 256 ((and-eq-true_iff (leb 1 width) (leb width 256)).0 narrow).1 in
        let most : n * width ≤ 1024 * 256 = mul-le-mul (leb-true n 1024 few) thin in
        omega (arith, most)

    blocks_no : (filled : ℕ) → blocks_room ≤ filled → first_no (blocks_asked filled) ≡ no_at 3 0
    blocks_no filled h = asked_no 3 0 (eqb filled (n * width)) bits_asked (ne_eqb filled (n * width) (unfilled filled h))

  -- as many bytes as are read, or more: no difference
  move_alike : (filled : ℕ) → blocks_room ≤ filled
      → first_no (apply_questions n width blocks_room bits log) ≡ first_no (apply_questions n width filled bits log)
  unfolding apply_questions
  move_alike filled h =
      one_alike 1 0 (leb n 1024) (ask 2 0 width_fits ∷ blocks_asked blocks_room) (ask 2 0 width_fits ∷ blocks_asked filled)
      (λ few. one_alike 2 0 width_fits (blocks_asked blocks_room) (blocks_asked filled)
      (λ narrow. blocks_no few narrow blocks_room (omega arith) ∙ sym (blocks_no few narrow filled h)))

  move_no : (filled : ℕ) → blocks_room ≤ filled → first_no (apply_questions n width filled bits log) ≡ all_yes → ⊥
  unfolding apply_questions
  move_no filled h e =
      let P = passed 1 0 (leb n 1024) (ask 2 0 width_fits ∷ blocks_asked filled) e in
      let Q = passed 2 0 width_fits (blocks_asked filled) P.rest in
      never (sym (blocks_no P.here Q.here filled h) ∙ Q.rest)

-- blocks of as many bytes as are read, or more, are refused alike; and of a refused call nothing is written but its refusal
pub blocks-cut : (sheet : List ℕ) (width filled : ℕ) → blocks_room ≤ filled
    → SameNo (move_questions sheet width blocks_room) (move_questions sheet width filled)
unfolding move_questions
blocks-cut sheet width filled h =
    let read = read_questions sheet 9217 in
    let moves : ℕ → List Question = λ f. apply_questions (places_in sheet) width f (setting_in sheet) (entry_words * 9217) in
    same_no (read ++ moves blocks_room) (read ++ moves filled)
    (both_alike read read (moves blocks_room) (moves filled) refl
    (λ y. move_alike (places_in sheet) width (setting_in sheet) (entry_words * 9217) filled h))
    (λ e. move_no (places_in sheet) width (setting_in sheet) (entry_words * 9217) filled h (both_pass read (moves filled) e).second)
