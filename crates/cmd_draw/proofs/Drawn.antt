-- The call, return by return.
-- Assumes nothing.
use mathlib.Core.Path.{◌≡◌, refl, sym, ap, ◌∙◌}
use mathlib.Core.List.{List, ◌++◌}
use Prim.Native.Nat.{ℕ, ◌+◌, ◌*◌, ◌/◌, ◌≤◌, ◌<◌, min}
use native.Mathlib.Numerals.{add-one}
use native.Mathlib.Omega.{arith}
use native.Mathlib.Decide.{dec_lt}
use borrow.Author.Tests.{le-leb, lt-leb}
use lib.Seq.{take_at, take-suc-set}
use lib.ListN.{length, get_or, take, set, replicate, get_or-eq_default}
use Rattle.std.specs.Prelude.{Ok, Err}
use Rattle.answers.specs.declared.Refusal.{Refusal}
use Rattle.answers.specs.Answers.{accepted, answer_from}
use Rattle.answers.specs.Questions.{first_no}
use Rattle.answers.specs.Buffers.{overlay, Put}
use Rattle.answers.specs.Outcomes.{answer_of, outcome}
use Rattle.answers.proofs.Buffers.{overlay_taken}
use Rattle.answers.proofs.Results.{err_no}
use Rattle.answers.proofs.Outcomes.{ends_refused, ends-accepted}
use Rattle.answers.proofs.Putting.{put_length}
use Rattle.permutation.specs.Permutations.{IsPermutation, tabulate}
use Rattle.permutation.proofs.Tables.{length-tabulate}
use Rattle.shuffle.specs.declared.Drawn.{Drawn}
use Rattle.shuffle.specs.Shuffled.{Shuffled, order_from, shuffle_asks, Acceptable, drawn, shuffle_call}
use Rattle.shuffle.proofs.Accepted.{shuffle_accepted, shuffle_accepts, order_permutation}
use Rattle.cmd_draw.specs.Draw.{word_at, bytes_for, words_in, order_bytes, draw_questions, draw_from}

pub wanted : (n : ℕ) → n ≤ 1024 → 4 * (n + 64) ≡ bytes_for n
wanted n h = rw (bytes_for, le-leb n 1024 h)

pub wanted_none : (n : ℕ) → 1024 < n → 0 ≡ bytes_for n
wanted_none n h = rw (bytes_for, lt-leb n 1024 h)

-- the words that were gathered, whatever stands behind them
pub gathered : (n : ℕ) (bytes row rest : List ℕ) {most count m : ℕ} → most ≡ bytes_for n
    → count ≡ min most (length bytes) / 4 → m ≡ count → row ≡ tabulate (word_at bytes) m
    → take count (row ++ rest) ≡ words_in n bytes
gathered n bytes row rest {count = count} b c e r =
    take_at row rest count (ap length r ∙ length-tabulate (word_at bytes) _ ∙ e) ∙ r ∙ ap (tabulate (word_at bytes)) e ∙ rw (c, b)

-- one word more
pub gathered_more : (f : ℕ → ℕ) (words : List ℕ) (i x : ℕ) → i < length words → x ≡ f i → take i words ≡ tabulate f i
    → take (i + 1) (set words i x) ≡ tabulate f (i + 1)
unfolding tabulate
gathered_more f words i x l e R = rw add-one (take-suc-set words i x l ∙ rw (R, e))

-- what a shuffle into 1,024 entries came to
abbrev before : List ℕ
before = replicate 1024 0

module _ (n : ℕ) (words : List ℕ) where
  told : {o : Shuffled} → o ≡ shuffle_call n words (replicate 1024 0) → o.answer ≡ answer_of (first_no (draw_questions n words)) n
  unfolding shuffle_call draw_questions
  told came = ap (λ (o : Shuffled). o.answer) came ∙ go (dec_lt 1024 n)
    where
      go : Dec (1024 < n) → answer_of (first_no (shuffle_asks n words before)) n ≡ answer_of (first_no (draw_questions n words)) n
      go (yes l) = rw (lt-leb n 1024 l)
      go (no l) = rw (le-leb n 1024 (omega arith))

  pub draw_refused : {order : List ℕ} (r : Refusal) → drawn (Err r) order ≡ shuffle_call n words (replicate 1024 0) → (out : List ℕ)
      → outcome (answer_from (Err r)) out ≡ draw_from n words out
  unfolding draw_from
  draw_refused r came out =
      ends_refused (first_no (draw_questions n words)) _ _ out
      (err_no {A = Drawn} (λ (d : Drawn). d.count) r (first_no (draw_questions n words)) n (told came)) refl refl

  module _ {order : List ℕ} {d : Drawn} (came : drawn (Ok d) order ≡ shuffle_call n words (replicate 1024 0)) where
    A : Acceptable n words before
    A = shuffle_accepts n words before (sym (ap (λ (o : Shuffled). o.answer.number) came))

    pub count_is : d.count ≡ n
    count_is = ap (λ (o : Shuffled). o.answer.count) (came ∙ shuffle_accepted n words before A)

    permutation : IsPermutation n (order_from n words)
    permutation = order_permutation n words A.enough

    order_is : take n order ≡ order_from n words
    order_is =
        let there : order ≡ overlay before 0 (order_from n words) =
        ap (λ (o : Shuffled). o.buffer) (came ∙ shuffle_accepted n words before A)
        in
        overlay_taken before there permutation.whole

    pub few : n ≤ 1024
    few = A.small

    pub entries_few : (i : ℕ) → get_or (take n order) i 0 < 16384
    entries_few i = rw order_is (go (dec_lt i n))
      where
        go : Dec (i < n) → get_or (order_from n words) i 0 < 16384
        go (yes l) = omega (arith, permutation.below i l, A.small)
        go (no l) = rw (get_or-eq_default (order_from n words) 0 {n = i} (omega (arith, permutation.whole))) (omega arith)

    pub draw_done : (out : List ℕ) {q : ℕ} {after : List ℕ} → Put out 0 (order_bytes (take n order)) q after
        → outcome (accepted q) after ≡ draw_from n words out
    unfolding draw_from draw_questions
    draw_done out P =
        ends-accepted (first_no (draw_questions n words)) _ _ out (rw (le-leb n 1024 A.small, A.enough))
        (ap accepted (put_length P) ∙ rw order_is) (P.buffer ∙ rw order_is)
