-- Each return is the answer to the questions up to there.
-- Assumes nothing.
use native.Mathlib.Omega.{arith}
use native.Mathlib.Nat.{mul-le-mul}
use mathlib.Core.Path.{◌≡◌, sym, ◌∙◌}
use Prim.Native.Nat.{◌*◌, ◌≤◌}
use Rattle.counts.specs.Counts.{W}
use Rattle.answers.proofs.Questions.{yes_each}
use Rattle.questions.proofs.Lists.{first_no_lem}
use Rattle.questions.proofs.Asked.{few_yes, few_no, width_yes, narrow_no, wide_no, fill_yes, fill_no, count_yes, count_no, log_yes, log_no, bits_yes, bits_no}
use Rattle.apply_questions.specs.Questions.{apply_questions}
use Rattle.apply_questions.proofs.Asked.{told}
use Rattle.apply_questions.proofs.ask.Goals as goal

pub returns-then-n-gt-MOST_PLACES : goal.returns-then-n-gt-MOST_PLACES
unfolding apply_questions
returns-then-n-gt-MOST_PLACES c = let a = c.args in
    let qs = apply_questions a.n a.width a.filled a.bits.now a.room in
    rw c.of.ensures (told (first_no_lem 0 qs (few_no a.n (omega arith))))

pub returns-then-width-lt1 : goal.returns-then-width-lt1
unfolding apply_questions
returns-then-width-lt1 c = let a = c.args in
    let qs = apply_questions a.n a.width a.filled a.bits.now a.room in
    rw c.of-then-width-lt1.ensures (told (first_no_lem 1 qs (few_yes a.n c.if-n-gt-MOST_PLACES.false, narrow_no a.width (omega arith))))

pub returns-then-width-gt256 : goal.returns-then-width-gt256
unfolding apply_questions
returns-then-width-gt256 c = let a = c.args in
    let qs = apply_questions a.n a.width a.filled a.bits.now a.room in
    rw c.of-then-width-gt256.ensures (told (first_no_lem 1 qs (few_yes a.n c.if-n-gt-MOST_PLACES.false, wide_no a.width c.if-width-lt1.false (omega arith))))

pub overflow_mul-n : goal.overflow_mul-n
overflow_mul-n c = let a = c.args in
    let q : a.n * a.width ≤ 1024 * 256 = mul-le-mul c.if-n-gt-MOST_PLACES.false c.if-width-gt256.false in
    omega arith

pub returns-then-filled-n : goal.returns-then-filled-n
unfolding apply_questions
returns-then-filled-n c = let a = c.args in
    let qs = apply_questions a.n a.width a.filled a.bits.now a.room in
    let few = few_yes a.n c.if-n-gt-MOST_PLACES.false in
    let fits = width_yes a.width c.if-width-lt1.false c.if-width-gt256.false in
    rw c.of-then-filled-n.ensures (told (first_no_lem 2 qs (few, (fits, fill_no a.n a.width a.filled (λ e. omega arith)))))

pub returns-then-bits-due : goal.returns-then-bits-due
unfolding apply_questions
returns-then-bits-due c = let a = c.args in
    let due : c.switches-due.result ≡ W a.n = c.switches-due.ensures.0 in
    let qs = apply_questions a.n a.width a.filled a.bits.now a.room in
    let few = few_yes a.n c.if-n-gt-MOST_PLACES.false in
    let fits = width_yes a.width c.if-width-lt1.false c.if-width-gt256.false in
    let fill = fill_yes a.n a.width a.filled c.if-filled-n.false in
    rw c.of-then-bits-due.ensures (told (first_no_lem 3 qs (few, (fits, (fill, count_no a.n a.bits.now (λ e. omega arith))))))

pub returns-then-room-due : goal.returns-then-room-due
unfolding apply_questions
returns-then-room-due c = let a = c.args in
    let due : c.switches-due.result ≡ W a.n = c.switches-due.ensures.0 in
    let qs = apply_questions a.n a.width a.filled a.bits.now a.room in
    let few = few_yes a.n c.if-n-gt-MOST_PLACES.false in
    let fits = width_yes a.width c.if-width-lt1.false c.if-width-gt256.false in
    let fill = fill_yes a.n a.width a.filled c.if-filled-n.false in
    let count = count_yes a.n a.bits.now (c.if-bits-due.false ∙ due) in
    rw c.of-then-room-due.ensures (told (first_no_lem 4 qs (few, (fits, (fill, (count, log_no (W a.n) a.room (omega arith)))))))

pub returns-then-bad-bits : goal.returns-then-bad-bits
unfolding apply_questions
returns-then-bad-bits c = let a = c.args in
    let due : c.switches-due.result ≡ W a.n = c.switches-due.ensures.0 in
    let bad = c.first_bad_bit-bad.ensures in
    let qs = apply_questions a.n a.width a.filled a.bits.now a.room in
    let few = few_yes a.n c.if-n-gt-MOST_PLACES.false in
    let fits = width_yes a.width c.if-width-lt1.false c.if-width-gt256.false in
    let fill = fill_yes a.n a.width a.filled c.if-filled-n.false in
    let count = count_yes a.n a.bits.now (c.if-bits-due.false ∙ due) in
    let room = log_yes (W a.n) a.room (omega arith) in
    let no = bits_no a.bits.now (λ e. c.if-bad-bits.true (bad ∙ e)) in
    rw (c.at.ensures, bad) (told (first_no_lem 5 qs (few, (fits, (fill, (count, (room, no)))))))

pub returns : goal.returns
unfolding apply_questions
returns c = let a = c.args in
    let due : c.switches-due.result ≡ W a.n = c.switches-due.ensures.0 in
    let bad = c.first_bad_bit-bad.ensures in
    let qs = apply_questions a.n a.width a.filled a.bits.now a.room in
    let few = few_yes a.n c.if-n-gt-MOST_PLACES.false in
    let fits = width_yes a.width c.if-width-lt1.false c.if-width-gt256.false in
    let fill = fill_yes a.n a.width a.filled c.if-filled-n.false in
    let count = count_yes a.n a.bits.now (c.if-bits-due.false ∙ due) in
    let room = log_yes (W a.n) a.room (omega arith) in
    let each = bits_yes a.bits.now (sym bad ∙ c.if-bad-bits.false) in
    told (yes_each qs (few, (fits, (fill, (count, (room, (each, tt)))))))
