-- The rows from the log that a mixing wrote are those of the network.
-- Assumes nothing.
use mathlib.Core.Path.{◌≡◌, refl, sym, ap, ◌∙◌}
use mathlib.Core.List.{List, [], ◌∷◌, ◌++◌}
use Prim.Native.Nat.{ℕ, zero, suc, ◌+◌, ◌*◌, ◌≤◌, ◌<◌}
use native.Mathlib.Nat.{mul-one, suc-mul, mul-le-mul_right}
use native.Mathlib.Omega.{arith}
use lib.ListN.{length, get_or, drop, length-append}
use lib.Seq.{get_or-drop}
use Rattle.answers.specs.declared.Answer.{Answer}
use Rattle.answers.specs.Buffers.{overlay}
use Rattle.answers.specs.Outcomes.{Logged, logged}
use Rattle.answers.proofs.Buffers.{overlay-front}
use Rattle.bits.specs.Bits.{Bits}
use Rattle.counts.specs.Counts.{W}
use Rattle.network.specs.Wiring.{paper}
use Rattle.network.specs.Log.{Entry, entry_words, words, none_such, entry_at, apply_entries}
use Rattle.network.proofs.Shape.{entry_at_front, length-apply_entries}
use Rattle.network.proofs.Paper.{paper_lawful}
use Rattle.permutation.proofs.Tables.{is_tabulate}
use Rattle.apply.specs.Calls.{apply_call}
use Rattle.apply_questions.proofs.Asked.{Fits}
use Rattle.apply.proofs.Outcome.{apply_accepted}
use Rattle.answers.specs.Buffers.{Put}
use Rattle.answers.proofs.Putting.{put_then}
use Rattle.cmd_text.specs.Text.{text, bits_text}
use Rattle.cmd_text.proofs.Lines.{put_kept}
use Rattle.cmd_picture_line.specs.Line.{label, grouped}
use Rattle.cmd_picture_line.proofs.Grouping.{grouped_long}
use Rattle.cmd_picture.specs.Picture.{mark, columns, heading, row, rows, picture}
use Rattle.cmd_picture.specs.Inner.{mark_in, columns_in, rows_in}
use Rattle.cmd_picture.proofs.Switches.{small, bits_few}

-- ---- columns

columns-length : (es : List Entry) (bits : List ℕ) (place : ℕ) → length (columns es bits place) ≡ length es
unfolding columns
columns-length [] bits place = refl
columns-length (e ∷ es) bits place = ap suc (columns-length es _ place)

-- what an entry shows at a place
abbrev mark_of : Entry → ℕ → ℕ → ℕ
mark_of x bit place = mark x.first x.second bit place

columns-at : (es : List Entry) (bits : List ℕ) (place e : ℕ) → e < length es
    → get_or (columns es bits place) e 0 ≡ mark_of (get_or es e none_such) (get_or bits e 0) place
unfolding columns
columns-at [] bits place e h = absurd (omega arith)
columns-at (x ∷ es) bits place zero h = refl
columns-at (x ∷ es) bits place (suc e) h =
    let z : 1 + e ≡ suc e = omega arith in
    let d : get_or (drop 1 bits) e 0 ≡ get_or bits (suc e) 0 = get_or-drop 1 bits e 0 ∙ ap (λ i. get_or bits i 0) z in
    columns-at es (drop 1 bits) place e (omega arith) ∙ ap (λ v. mark_of (get_or es e none_such) v place) d

module _ (before : List ℕ) (es : List Entry) (bits : List ℕ) (count : length bits ≡ length es) {log : List ℕ} (written : log ≡ overlay before 0 (words es)) where
  entry_in : (e : ℕ) → e < length es → entry_at log e ≡ get_or es e none_such
  entry_in e h =
      ap (λ l. entry_at l e) (written ∙ overlay-front before (words es)) ∙ entry_at_front es (drop (length (words es)) before) e h

  columns_in_lem : (place : ℕ) → columns_in log bits place ≡ columns es bits place
  columns_in_lem place =
      sym
      (is_tabulate (mark_in log bits place) (length bits) (columns es bits place) (columns-length es bits place ∙ sym count)
      (λ e h. columns-at es bits place e (omega arith)
      ∙ ap (λ x. mark_of x (get_or bits e 0) place) (sym (entry_in e (omega arith)))))

  pub rows_in_lem : (m n : ℕ) → rows_in m log bits n ≡ rows m es bits n
  unfolding rows_in rows
  rows_in_lem m zero = refl
  rows_in_lem m (suc n) = rw (rows_in_lem m n, columns_in_lem n)

-- ---- the mixing

pub picture_in :
    (n : ℕ) (bits blocks log : List ℕ) {a : Answer} {after log' : List ℕ}
    → n ≤ 16
    → length bits ≡ W n
    → Bits bits
    → length blocks ≡ n
    → length log ≡ entry_words * 49
    → logged a after log' ≡ apply_call n 1 blocks bits log
    → heading n bits ++ rows_in n log' bits n ≡ picture n bits
unfolding picture apply_call
picture_in n bits blocks log few count are_bits long room e =
    let f : Fits n 1 (length blocks) bits (length log) =
    record {
      places = omega arith;
      low = omega arith;
      high = omega arith;
      whole = long ∙ sym (mul-one n);
      count = count;
      words = omega (arith, small n few);
      settings = are_bits;
    }
    in
    ap (λ l. heading n bits ++ l)
    (rows_in_lem log (apply_entries paper n) bits (count ∙ sym (length-apply_entries paper n))
    (ap (λ (o : Logged). o.log) (e ∙ apply_accepted paper_lawful n 1 blocks bits log f)) n n)

-- the heading and the rows, one behind the other
module _ (n : ℕ) (bits log : List ℕ) (e : heading n bits ++ rows_in n log bits n ≡ picture n bits) (a : List ℕ) (at : ℕ) (h : at + length (picture n bits) ≤ length a) where
  pub heading_room : at + length (heading n bits) ≤ length a
  heading_room = omega (arith, ap length e, length-append (heading n bits) (rows_in n log bits n))

  module _ {r : ℕ} {b : List ℕ} (P : Put a at (heading n bits) r b) where
    pub rows_room : r + length (rows_in n log bits n) ≤ length b
    rows_room = omega (arith, ap length e, length-append (heading n bits) (rows_in n log bits n), P.place, put_kept heading_room P)

    pub picture_put : {q : ℕ} {c : List ℕ} → Put b r (rows_in n log bits n) q c → Put a at (picture n bits) q c
    picture_put Q = rw (← e) (put_then heading_room P Q)

-- room in the log for each switch
pub log_room : (n : ℕ) (bits log : List ℕ) → n ≤ 16 → length bits ≡ W n → length log ≡ entry_words * 49 → entry_words * length bits ≤ length log
log_room n bits log h e l = omega (arith, small n h)

-- how long the text gets: a line is four bytes, one for each switch and at most three gaps
line_long : (m : ℕ) (front cs : List ℕ) → length front ≡ 3 → length (front ++ (grouped m cs ++ text "\n")) ≤ 7 + length cs
line_long m front cs e = simp length-append (omega (arith, grouped_long m cs))

rows_long : (m : ℕ) (es : List Entry) (bits : List ℕ) (n : ℕ) → length (rows m es bits n) ≤ n * (7 + length es)
unfolding rows
rows_long m es bits zero = omega arith
rows_long m es bits (suc n) =
    omega (
      arith,
      length-append (rows m es bits n) (row m es bits n),
      line_long m (label n) (columns es bits n) refl,
      columns-length es bits n,
      rows_long m es bits n,
      suc-mul n (7 + length es),
    )

pub picture-length : (n : ℕ) (bits : List ℕ) → n ≤ 16 → length bits ≡ W n → length (picture n bits) ≤ 952
unfolding picture
picture-length n bits h e =
    let es = apply_entries paper n in
    omega (
      arith,
      length-append (heading n bits) (rows n es bits n),
      line_long n (text "   ") (bits_text bits) refl,
      bits_few n bits h e,
      rows_long n es bits n,
      mul-le-mul_right (7 + length es) h,
      length-apply_entries paper n,
      small n h,
    )
