-- The whole text, and the call.
-- Assumes nothing.
use mathlib.Core.Path.{◌≡◌, refl, ap, ◌∙◌}
use mathlib.Core.List.{List, ◌++◌}
use Prim.Native.Nat.{ℕ, ◌+◌, ◌*◌, ◌≤◌, ◌<◌}
use native.Mathlib.Omega.{arith}
use lib.ListN.{length, take, length-append}
use Rattle.answers.specs.Answers.{accepted}
use Rattle.answers.specs.Questions.{first_no}
use Rattle.answers.specs.Buffers.{overlay, Put}
use Rattle.answers.specs.Outcomes.{outcome}
use Rattle.answers.proofs.Outcomes.{ends_refused, ends-accepted}
use Rattle.network.specs.Wiring.{paper}
use Rattle.network.specs.Blocks.{order_of}
use Rattle.sheets.specs.Calls.{places_in, read_questions, setting_in, setting_outcome, read_setting}
use Rattle.answers.proofs.Putting.{put_then, put_length}
use Rattle.cmd_text.specs.Text.{text, decimal, bits_text, line}
use Rattle.cmd_text.proofs.Decimal.{digits_few}
use Rattle.cmd_text.proofs.Lines.{put_kept, bits_within}
use Rattle.std.specs.Prelude.{Ok, Err}
use Rattle.answers.specs.declared.Refusal.{Refusal}
use Rattle.answers.specs.Answers.{answer_from}
use Rattle.sheets.specs.declared.SettingSize.{SettingSize}
use Rattle.sheets.proofs.Setting.{setting_stops, setting_asked, setting_places, setting_there}
use Rattle.cmd_show.specs.Show.{order_text, pictured, setting_text, show_call}

-- ---- the lines

-- 7 + 4 + 1 bytes
pub places-line : (n : ℕ) → n ≤ 1024 → length (line "places " (decimal n)) ≤ 12
places-line n h = simp length-append (omega (arith, digits_few 3 n (let z : n < 10000 = omega arith in z)))

-- 8 + 9,217 + 1
pub setting-line : (bits : List ℕ) → length bits ≤ 9217 → length (line "setting " (bits_text bits)) ≤ 9226
setting-line bits h = simp length-append (omega (arith, bits_within bits 9217 (omega arith) h))

pub order-line :
    {a : List ℕ} {at : ℕ} {r : ℕ} {b : List ℕ} {q : ℕ} {c : List ℕ} {t : ℕ} {d : List ℕ} (order : List ℕ)
    → at + 8 + 6 * length order ≤ length a
    → Put a at (text "order") r b
    → Put b r (order_text order) q c × (q ≤ r + 2 + 6 * length order)
    → Put c q (text "\n") t d
    → Put a at (line "order" (order_text order)) t d × (t ≤ at + 8 + 6 * length order)
order-line {a} {at} order h P Q R =
    let room : at + length (text "order") ≤ length a = omega arith in
    (put_then room P (put_then (omega (arith, P.place, Q.0.place, Q.1, put_kept room P)) Q.0 R), omega (arith, P.place, Q.1, R.place))

-- the order's line, and behind it the picture
pub rest_put :
    {a : List ℕ} {at : ℕ} {r : ℕ} {b : List ℕ} {q : ℕ} {c : List ℕ} (n : ℕ) (bits order : List ℕ)
    → order ≡ order_of paper n bits
    → at + 8 + 6 * length order ≤ length a
    → Put a at (line "order" (order_text order)) r b × (r ≤ at + 8 + 6 * length order)
    → Put b r (pictured n bits) q c
    → Put a at (line "order" (order_text (order_of paper n bits)) ++ pictured n bits) q c
rest_put n bits order e h P Q = rw (← e) (put_then (omega (arith, P.0.place, P.1)) P.0 Q)

pub setting_put :
    {a : List ℕ} {r : ℕ} {b : List ℕ} {q : ℕ} {c : List ℕ} {t : ℕ} {d : List ℕ} (n : ℕ) (bits : List ℕ)
    → n ≤ 1024
    → length bits ≤ 9217
    → 16384 ≤ length a
    → Put a 0 (line "places " (decimal n)) r b
    → Put b r (line "setting " (bits_text bits)) q c
    → Put c q (line "order" (order_text (order_of paper n bits)) ++ pictured n bits) t d
    → Put a 0 (setting_text n bits) t d
unfolding setting_text
setting_put {a} n bits h g l P Q R =
    let room : 0 + length (line "places " (decimal n)) ≤ length a = omega (arith, places-line n h) in
    put_then room P (put_then (omega (arith, P.place, places-line n h, setting-line bits g, put_kept room P)) Q R)

-- ---- the call

module _ (sheet out before : List ℕ) {bits : List ℕ} where
  pub show_refused : (r : Refusal) → setting_outcome (Err r) bits ≡ read_setting sheet before → outcome (answer_from (Err r)) out ≡ show_call sheet out
  unfolding show_call
  show_refused r e = ends_refused (first_no (read_questions sheet 9217)) _ _ out (setting_stops sheet before r e) refl refl

  pub show_done :
      {s : SettingSize} {r : ℕ} {after : List ℕ}
      → setting_outcome (Ok s) bits ≡ read_setting sheet before
      → Put out 0 (setting_text s.places (take s.switches bits)) r after
      → outcome (answer_from (Ok r)) after ≡ show_call sheet out
  unfolding show_call
  show_done {s} e P =
      let same : setting_text s.places (take s.switches bits) ≡ setting_text (places_in sheet) (setting_in sheet) =
      rw (setting_there sheet before e, setting_places sheet before e) in
      ends-accepted (first_no (read_questions sheet 9217)) _ _ out (setting_asked sheet before e)
      (ap accepted (put_length P ∙ ap length same)) (P.buffer ∙ ap (overlay out 0) same)
