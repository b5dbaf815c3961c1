-- What the call on a rank leaves for the line of an order: its entries, its setting; and how long the line gets.
-- Assumes nothing.
use mathlib.Core.Path.{◌≡◌, refl, sym, ap, ◌∙◌, subst}
use mathlib.Core.List.{List, [], ◌∷◌, ◌++◌}
use Prim.Native.Nat.{ℕ, zero, suc, ◌+◌, ◌-◌, ◌*◌, ◌≤◌, ◌<◌}
use native.Mathlib.Omega.{arith}
use lib.Dec.{leb}
use lib.ListN.{length, get_or, take, drop, replicate, length-append}
use lib.Seq.{length-take-le, take_at}
use borrow.Author.Tests.{leb-true}
use Rattle.std.specs.Prelude.{Result, Ok, Err, IsOk}
use Rattle.answers.specs.declared.Refusal.{Refusal}
use Rattle.answers.specs.Answers.{answer_from}
use Rattle.answers.specs.Outcomes.{answer_of}
use Rattle.answers.proofs.Results.{number_above}
use Rattle.answers.specs.Questions.{first_bad_from, all_yes, first_no}
use Rattle.answers.specs.Buffers.{Put}
use Rattle.answers.specs.Outcomes.{buffer_of}
use Rattle.answers.proofs.Questions.{all_good}
use Rattle.answers.proofs.Buffers.{overlay_taken, overlay_whole}
use Rattle.counts.specs.Counts.{W, E, by_halves}
use Rattle.network.specs.Wiring.{paper}
use Rattle.network.specs.Log.{entry_words}
use Rattle.network.proofs.Paper.{paper_lawful}
use Rattle.steps.specs.Setting.{setting_for}
use Rattle.steps_canonical.proofs.Setting.{setting-length}
use Rattle.orders_listed.specs.Ranks.{factorial, order_at}
use Rattle.orders_listed.proofs.OrderAt.{length_order_at, order_permutation}
use Rattle.listed_order.specs.Calls.{ranked_questions, Ranked, ranked, ranked_call}
use Rattle.listed_order.proofs.Asked.{rank_passes}
use Rattle.cmd_text.specs.Text.{decimal}
use Rattle.cmd_text.proofs.Decimal.{decimal-one}
use Rattle.cmd_text.proofs.Lines.{bits_within}
use Rattle.cmd_list_line.specs.Line.{behind_commas, entries_text, line_of}
use Rattle.cmd_list.specs.Listing.{order_line, order_lines}

-- ---- the counts of up to 6 places

pub six_switches : (n : ℕ) → n ≤ 6 → W n ≤ 11
unfolding W by_halves first_bad_from
six_switches n h = leb-true (W n) 11 (all_good (λ i. leb (W i) 11) 7 refl n (omega arith))

six_entries : (n : ℕ) → n ≤ 6 → E n ≤ 34
unfolding E by_halves first_bad_from
six_entries n h = leb-true (E n) 34 (all_good (λ i. leb (E i) 34) 7 refl n (omega arith))

-- ---- how long a line gets

-- entries of one digit: two characters each, but for the first
commas_long : (xs : List ℕ) → ((i : ℕ) → i < length xs → get_or xs i 0 < 10) → length (behind_commas xs) ≡ 2 * length xs
unfolding behind_commas
commas_long [] h = refl
commas_long (x ∷ xs) h =
    let one : length (decimal x) ≡ 1 = ap length (decimal-one x (h 0 (omega arith))) in
    omega (arith, one, length-append (decimal x) (behind_commas xs), commas_long xs (λ i l. h (suc i) (omega arith)))

entries_long : (xs : List ℕ) → ((i : ℕ) → i < length xs → get_or xs i 0 < 10) → length (entries_text xs) ≤ 2 * length xs - 1
unfolding entries_text
entries_long [] h = omega arith
entries_long (x ∷ xs) h =
    let one : length (decimal x) ≡ 1 = ap length (decimal-one x (h 0 (omega arith))) in
    omega (arith, one, length-append (decimal x) (behind_commas xs), commas_long xs (λ i l. h (suc i) (omega arith)))

module _ (n r : ℕ) where
  pub setting_long : r < factorial n → length (setting_for paper (order_at n r)) ≡ W n
  setting_long h = setting-length paper_lawful n (order_at n r) (order_permutation n r h)

  -- 11 characters for the entries, 11 for the bits, a space and the newline
  pub line_fits : n ≤ 6 → r < factorial n → length (order_line n r) ≤ 24
  unfolding order_line
  line_fits few h =
      let o : List ℕ = order_at n r in
      let P = order_permutation n r h in
      let digits : length (entries_text o) ≤ 2 * length o - 1 =
      entries_long o (λ i l. omega (arith, P.below i (omega (arith, P.whole))))
      in
      let bits = bits_within (setting_for paper o) 11 (omega arith) (omega (arith, setting_long h, six_switches n few)) in
      simp length-append (omega (arith, digits, bits, P.whole))

-- .. and the text
pub lines_fit : (n : ℕ) → n ≤ 6 → (k : ℕ) → k ≤ factorial n → length (order_lines n k) ≤ 24 * k
unfolding order_lines
lines_fit n few zero h = omega arith
lines_fit n few (suc k) h =
    omega (arith, length-append (order_lines n k) (order_line n k), lines_fit n few k (omega arith), line_fits n k few (omega arith))

-- ---- the call, with room for 6 places

abbrev pub zeros : ℕ → List ℕ
zeros k = replicate k 0

-- as `put_order` calls it: the bits are the first w of 11, the log has room for 34 entries
module _
    (n r w : ℕ) (few : n ≤ 6) (h : r < factorial n) (exact : w ≡ W n) (made : Result ℕ Refusal) {list bits log : List ℕ}
    (told : ranked (answer_from made) list bits log ≡ ranked_call n r (zeros 6) (take w (zeros 11)) (zeros (entry_words * 34)))
  where
    full : length (take w (zeros 11)) ≡ w
    full = length-take-le w (zeros 11) (omega (arith, exact, six_switches n few))

    yes_all : first_no (ranked_questions n r (zeros 6) (take w (zeros 11)) (zeros (entry_words * 34))) ≡ all_yes
    yes_all =
        rank_passes n r (zeros 6) (take w (zeros 11)) (zeros (entry_words * 34))
        (record {
          small = few;
          rank_below = h;
          room = few;
          bit_count = full ∙ exact;
          log_room = omega (arith, six_entries n few);
        })

    pub not_refused : IsOk made
    unfolding ranked_call
    not_refused = go made (ap (λ (x : Ranked). x.answer.number) told ∙ ap (λ v. (answer_of v (E n)).number) yes_all)
      where
        go : (r : Result ℕ Refusal) → (answer_from r).number ≡ 0 → IsOk r
        go (Ok x) z = refl
        go (Err x) z = absurd (omega (arith, number_above x.reason, z))

    order_left : take n list ≡ order_at n r
    unfolding ranked_call
    order_left =
        let told-list = ap (λ (x : Ranked). x.list) told ∙ ap (λ v. buffer_of v (order_at n r) (zeros 6)) yes_all in
        overlay_taken (zeros 6) told-list (length_order_at n r)

    bits_left : bits ≡ setting_for paper (order_at n r)
    unfolding ranked_call
    bits_left =
        let s : List ℕ = setting_for paper (order_at n r) in
        ap (λ (x : Ranked). x.bits) told
        ∙ ap (λ v. buffer_of v s (take w (zeros 11))) yes_all
        ∙ overlay_whole (take w (zeros 11)) s (setting_long n r h ∙ sym exact ∙ sym full)

    bits_long : length bits ≡ w
    bits_long = ap length bits_left ∙ setting_long n r h ∙ sym exact

    abbrev rest : List ℕ
    rest = drop w (zeros 11)

    pub bits_there : w ≤ length (bits ++ rest)
    bits_there = omega (arith, bits_long, length-append bits rest)

    line-left : line_of (take n list) (take w (bits ++ rest)) ≡ order_line n r
    unfolding order_line
    line-left = rw (order_left, take_at bits rest w bits_long, bits_left)

    pub line_room : (at room : ℕ) → at + 24 ≤ room → at + length (line_of (take n list) (take w (bits ++ rest))) ≤ room
    line_room at room g = omega (arith, ap length line-left, line_fits n r few h, g)

    pub line-done :
        {before : List ℕ} {at e : ℕ} {after : List ℕ}
        → Put before at (line_of (take n list) (take w (bits ++ rest))) e after
        → Put before at (order_line n r) e after
    line-done {before} {at} {e} {after} P = subst (λ l. Put before at l e after) line-left P
