-- What the program prints for a length has a line for each order, n! in all, and line r, counted from 0, is that of the r-th order.
-- Assumes nothing.
use mathlib.Core.Path.{◌≡◌, refl, sym, ap, ◌∙◌}
use mathlib.Core.Bool.{Bool, true, false}
use mathlib.Core.List.{List, [], ◌∷◌, ◌++◌, append-nil, append_assoc}
use Prim.Native.Nat.{ℕ, zero, suc, ◌+◌, ◌/◌, ◌%◌, ◌<◌}
use native.Mathlib.Omega.{arith}
use native.Mathlib.Decide.{dec_lt}
use lib.Dec.{eqb}
use lib.ListN.{length, get_or}
use borrow.Author.Tests.{ne_eqb}
use Rattle.answers.specs.Questions.{all_yes, first_no}
use Rattle.network.specs.Wiring.{paper}
use Rattle.network.proofs.Paper.{paper_lawful}
use Rattle.steps.specs.Setting.{setting_for}
use Rattle.steps_canonical.proofs.Setting.{setting_house}
use Rattle.orders_listed.specs.Ranks.{factorial, order_at}
use Rattle.orders_listed.proofs.OrderAt.{order_permutation}
use Rattle.cmd_text.specs.Text.{text, decimal, character, characters, bits_text}
use Rattle.cmd_text.proofs.Decimal.{decimal-one, decimal_more}
use Rattle.cmd_list.specs.Lines.{on_first, lines_in, OneLineEach}
use Rattle.cmd_list_line.specs.Line.{behind_commas, entries_text}
use Rattle.cmd_list.specs.Listing.{order_line, order_lines, orders_of, length_in, list_questions, orders_text}

-- ---- a line has no newline but at its end

-- each character's code is above the newline's
abbrev Plain : List ℕ → Type 0
Plain [] = Unit {0}
Plain (c ∷ cs) = (10 < c) × Plain cs

plain_both : (xs ys : List ℕ) → Plain xs → Plain ys → Plain (xs ++ ys)
plain_both [] ys p q = q
plain_both (x ∷ xs) ys p q = (p.0, plain_both xs ys p.1 q)

decimal_plain : (b v : ℕ) → v < b → Plain (decimal v)
decimal_plain zero v h = absurd (omega arith)
decimal_plain (suc b) v h = go (dec_lt v 10) (decimal_plain b (v / 10))
  where
    go : Dec (v < 10) → (v / 10 < b → Plain (decimal (v / 10))) → Plain (decimal v)
    go (yes l) r = rw (decimal-one v l) (omega arith, tt)
    go (no l) r =
        rw (decimal_more v (omega arith))
        (plain_both (decimal (v / 10)) ((48 + v % 10) ∷ []) (r (omega arith)) (omega arith, tt))

number_plain : (v : ℕ) → Plain (decimal v)
number_plain v = decimal_plain (suc v) v (omega arith)

commas_plain : (xs : List ℕ) → Plain (behind_commas xs)
unfolding behind_commas
commas_plain [] = tt
commas_plain (x ∷ xs) = (omega arith, plain_both (decimal x) (behind_commas xs) (number_plain x) (commas_plain xs))

entries_plain : (xs : List ℕ) → Plain (entries_text xs)
unfolding entries_text
entries_plain [] = tt
entries_plain (x ∷ xs) = plain_both (decimal x) (behind_commas xs) (number_plain x) (commas_plain xs)

character_plain : (b : ℕ) → 10 < character b
character_plain b = go (eqb b 1) refl
  where
    go : (t : Bool) → eqb b 1 ≡ t → 10 < character b
    go true t = rw (t, character) (omega arith)
    go false t = rw (t, character) (omega arith)

characters_plain : (bs : List ℕ) → Plain (characters bs)
unfolding characters
characters_plain [] = tt
characters_plain (b ∷ bs) = (character_plain b, characters_plain bs)

bits_plain : (bs : List ℕ) → Plain (bits_text bs)
unfolding bits_text
bits_plain [] = (omega arith, tt)
bits_plain (b ∷ bs) = characters_plain (b ∷ bs)

-- ---- line by line

line_first : (cs rest : List ℕ) → Plain cs → lines_in (cs ++ (text "\n" ++ rest)) ≡ (cs ++ text "\n") ∷ lines_in rest
unfolding lines_in
line_first [] rest p = refl
line_first (c ∷ cs) rest p = rw (ne_eqb c 10 (λ e. omega (arith, p.0)), lines_in) (ap (on_first c) (line_first cs rest p.1))

module _ (n : ℕ) where
  order-first : (r : ℕ) (rest : List ℕ) → lines_in (order_line n r ++ rest) ≡ order_line n r ∷ lines_in rest
  unfolding order_line
  order-first r rest =
      let entries : List ℕ = entries_text (order_at n r) in
      let bits : List ℕ = text " " ++ bits_text (setting_for paper (order_at n r)) in
      let whole : order_line n r ≡ (entries ++ bits) ++ text "\n" = sym (append_assoc entries bits (text "\n")) in
      let plain : Plain (entries ++ bits) =
      plain_both entries bits (entries_plain (order_at n r)) (omega arith, bits_plain (setting_for paper (order_at n r)))
      in
      ap (λ l. lines_in (l ++ rest)) whole
      ∙ ap lines_in (append_assoc (entries ++ bits) (text "\n") rest)
      ∙ line_first (entries ++ bits) rest plain
      ∙ ap (λ l. l ∷ lines_in rest) (sym whole)

  -- behind the first k lines: as many are counted, and the next line is the first of the rest
  next : (k : ℕ) (rest : List ℕ) → order_lines n (suc k) ++ rest ≡ order_lines n k ++ (order_line n k ++ rest)
  unfolding order_lines
  next k rest = append_assoc (order_lines n k) (order_line n k) rest

  count-behind : (k : ℕ) (rest : List ℕ) → length (lines_in (order_lines n k ++ rest)) ≡ k + length (lines_in rest)
  unfolding order_lines
  count-behind zero rest = omega arith
  count-behind (suc k) rest =
      let more : length (lines_in (order_line n k ++ rest)) ≡ suc (length (lines_in rest)) = ap length (order-first k rest) in
      omega (arith, ap (λ t. length (lines_in t)) (next k rest), count-behind k (order_line n k ++ rest), more)

  at-behind : (k : ℕ) (rest : List ℕ) (i : ℕ) → get_or (lines_in (order_lines n k ++ rest)) (k + i) [] ≡ get_or (lines_in rest) i []
  unfolding order_lines
  at-behind zero rest i = ap (λ j. get_or (lines_in rest) j []) (omega arith)
  at-behind (suc k) rest i =
      ap (λ t. get_or (lines_in t) (suc k + i) []) (next k rest)
      ∙ ap (λ j. get_or (lines_in (order_lines n k ++ (order_line n k ++ rest))) j []) (omega arith)
      ∙ at-behind k (order_line n k ++ rest) (suc i)
      ∙ ap (λ ls. get_or ls (suc i) []) (order-first k rest)

  at_before : (k : ℕ) (rest : List ℕ) (r : ℕ) → r < k → get_or (lines_in (order_lines n k ++ rest)) r [] ≡ order_line n r
  at_before zero rest r h = absurd (omega arith)
  at_before (suc k) rest r h = ap (λ t. get_or (lines_in t) r []) (next k rest) ∙ go (dec_lt r k) (at_before k (order_line n k ++ rest) r)
    where
      go : Dec (r < k)
          → (r < k → get_or (lines_in (order_lines n k ++ (order_line n k ++ rest))) r [] ≡ order_line n r)
          → get_or (lines_in (order_lines n k ++ (order_line n k ++ rest))) r [] ≡ order_line n r
      go (yes l) before = before l
      go (no l) before =
          let last : k ≡ r = omega arith in
          rw (← last)
          (ap (λ j. get_or (lines_in (order_lines n k ++ (order_line n k ++ rest))) j []) (let e : k ≡ k + 0 = omega arith in e)
          ∙ at-behind k (order_line n k ++ rest) 0
          ∙ ap (λ ls. get_or ls 0 []) (order-first k rest))

  lines_count : length (lines_in (orders_of n)) ≡ factorial n
  unfolding lines_in
  lines_count = ap (λ t. length (lines_in t)) (sym (append-nil (orders_of n))) ∙ count-behind (factorial n) [] ∙ omega arith

  line_of : (r : ℕ) → r < factorial n → get_or (lines_in (orders_of n)) r [] ≡ order_line n r
  line_of r h = ap (λ t. get_or (lines_in t) r []) (sym (append-nil (orders_of n))) ∙ at_before (factorial n) [] r h

  one_line : OneLineEach n (orders_of n)
  one_line =
      record {
        count = lines_count;
        each = line_of;
        house = λ r h. setting_house paper_lawful n (order_at n r) (order_permutation n r h);
      }

-- what the program prints where every question gets a yes
pub one_line_each : (input : List ℕ) → first_no (list_questions input) ≡ all_yes → OneLineEach (length_in input) (orders_text input)
unfolding orders_text
one_line_each input e = rw e (one_line (length_in input))
