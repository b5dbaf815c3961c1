-- The entries of an order, put one behind another; then a space, the bits and the newline.
-- Assumes nothing.
use mathlib.Core.Path.{◌≡◌, refl, sym, ap, ◌∙◌}
use mathlib.Core.List.{List, [], ◌∷◌, ◌++◌, append-nil, append_assoc}
use Prim.Native.Nat.{ℕ, ◌+◌, ◌-◌, ◌≤◌, ◌<◌}
use native.Mathlib.Numerals.{add-one}
use native.Mathlib.Omega.{arith}
use lib.ListN.{length, get_or, take, drop, length-append, drop_of_length-le}
use lib.Seq.{drop-cons, take_all}
use Rattle.answers.specs.Buffers.{Put}
use Rattle.answers.proofs.Putting.{put_none, put_then}
use Rattle.cmd_text.specs.Text.{text, decimal, bits_text}
use Rattle.cmd_text.proofs.Lines.{put_kept, room_first, room_second, room_third, put_both, put_three}
use Rattle.cmd_list_line.specs.Line.{behind_commas, entries_text, line_of}

-- ---- entry by entry

pub entries_none : (xs : List ℕ) → length xs ≡ 0 → entries_text xs ≡ []
unfolding entries_text
entries_none [] e = refl
entries_none (x ∷ xs) e = absurd (omega arith)

-- the entries behind the first, as the code has them
abbrev pub others : List ℕ → List ℕ
others xs = take (length xs - 1) (drop 1 xs)

pub entries_some : (xs : List ℕ) → 1 ≤ length xs → entries_text xs ≡ decimal (get_or xs 0 0) ++ behind_commas (others xs)
unfolding entries_text
entries_some [] h = absurd (omega arith)
entries_some (x ∷ xs) h = ap (λ l. decimal x ++ behind_commas l) (sym (take_all (length (x ∷ xs) - 1) xs (omega arith)))

-- what the loop keeps: of the entries behind the first some are put, and those from the i-th on are left
pub record Parting (entries before : List ℕ) (start : ℕ) (out : List ℕ) (end i : ℕ) : Type 0 where
  pub done : List ℕ
  pub put : Put before start done end out
  pub same : length out ≡ length before
  pub whole : done ++ behind_commas (drop i entries) ≡ behind_commas entries
  pub room : end + length (behind_commas (drop i entries)) ≤ length out

pub parting_starts :
    (entries before : List ℕ) (start : ℕ)
    → start + length (behind_commas entries) ≤ length before
    → Parting entries before start before start 0
parting_starts entries before start h = record { done = []; put = put_none before start; same = refl; whole = refl; room = h }

module _ {entries before : List ℕ} {start : ℕ} {out : List ℕ} {end i : ℕ} (L : Parting entries before start out end i) where
  module _ (h : i < length entries) where
    rest : List ℕ
    rest = behind_commas (drop (i + 1) entries)

    next : behind_commas (drop i entries) ≡ text "," ++ (decimal (get_or entries i 0) ++ rest)
    unfolding behind_commas rest
    next = rw add-one (ap behind_commas (drop-cons entries i 0 h))

    next_room : end + length (text "," ++ (decimal (get_or entries i 0) ++ rest)) ≤ length out
    next_room = omega (arith, L.room, ap length next)

    pub comma_room : end + 1 ≤ length out
    comma_room = room_first out end (text ",") (decimal (get_or entries i 0) ++ rest) next_room

    module _ {a : ℕ} {mid : List ℕ} (P : Put out end (text ",") a mid) where
      pub entry_room : a + length (decimal (get_or entries i 0)) ≤ length mid
      entry_room = room_second (decimal (get_or entries i 0)) rest P next_room

      pub parting_more :
          {e : ℕ} {after : List ℕ}
          → Put mid a (decimal (get_or entries i 0)) e after
          → Parting entries before start after e (i + 1)
      unfolding rest
      parting_more {e} {after} Q =
          let x : List ℕ = decimal (get_or entries i 0) in
          let fits : end + length (text "," ++ x) ≤ length out = omega (arith, next_room, length-append x rest) in
          let P' : Put out end (text "," ++ x) e after = put_both out end (text ",") x fits P Q in
          record {
            done = L.done ++ (text "," ++ x);
            put = put_then (omega (arith, L.put.place, L.room, L.same)) L.put P';
            same = put_kept fits P' ∙ L.same;
            whole = append_assoc L.done (text "," ++ x) rest ∙ ap (λ l. L.done ++ l) (sym next) ∙ L.whole;
            room = room_third x rest P next_room Q;
          }

  pub parting_ends : length entries ≤ i → Put before start (behind_commas entries) end out
  unfolding behind_commas
  parting_ends h =
      let all : L.done ≡ behind_commas entries =
      sym (append-nil L.done) ∙ ap (λ l. L.done ++ behind_commas l) (sym (drop_of_length-le entries h)) ∙ L.whole
      in
      rw (← all) L.put

-- ---- a line, part by part

module _
    (order bits : List ℕ) {a : List ℕ} {at : ℕ} (h : at + length (line_of order bits) ≤ length a)
    {r : ℕ} {b : List ℕ} (P : Put a at (entries_text order) r b)
  where
    pub space_room : r + 1 ≤ length b
    space_room = room_second (text " ") (bits_text bits ++ text "\n") P h

    module _ {q : ℕ} {c : List ℕ} (Q : Put b r (text " ") q c) where
      front : List ℕ
      front = entries_text order ++ text " "

      parts : front ++ (bits_text bits ++ text "\n") ≡ line_of order bits
      unfolding front
      parts = append_assoc (entries_text order) (text " ") (bits_text bits ++ text "\n")

      room : at + length (front ++ (bits_text bits ++ text "\n")) ≤ length a
      room = rw parts h

      front_put : Put a at front q c
      unfolding front
      front_put = put_both a at (entries_text order) (text " ") (room_first a at front (bits_text bits ++ text "\n") room) P Q

      pub bits_room : q + length (bits_text bits) ≤ length c
      bits_room = room_second (bits_text bits) (text "\n") front_put room

      module _ {t : ℕ} {d : List ℕ} (R : Put c q (bits_text bits) t d) where
        pub newline_room : t + 1 ≤ length d
        newline_room = room_third (bits_text bits) (text "\n") front_put room R

        pub line_put : {e : ℕ} {f : List ℕ} → Put d t (text "\n") e f → Put a at (line_of order bits) e f
        line_put S = rw (← parts) (put_three (bits_text bits) (text "\n") front_put room R S)
