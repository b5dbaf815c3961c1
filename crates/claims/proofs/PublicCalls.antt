-- DEMAND 1, of every public call.
-- Assumes nothing.
use mathlib.Core.Path.{◌≡◌, refl}
use mathlib.Core.List.{List, []}
use Prim.Native.Nat.{ℕ}
use native.Mathlib.Omega.{arith}
use lib.ListN.{length}
use Rattle.answers.specs.Questions.{Question, Verdict, all_yes, no_at, first_no, Numbered}
use Rattle.answers.specs.Outcomes.{answer_of}
use Rattle.answers.proofs.Outcomes.{numbered_both}
use Rattle.counts.specs.Counts.{W}
use Rattle.permutation.specs.Permutations.{identity, exchanged, combined, inverted}
use Rattle.numbers.specs.Numbers.{number_questions, value_at, place_after, number_answer, number_at, sevens}
use Rattle.numbers.proofs.Numbers.{numbered}
use Rattle.rows.specs.Rows.{numbers_questions}
use Rattle.rows.proofs.Rows.{numbered_row}
use Rattle.sheets.specs.Sheet.{numbers_for}
use Rattle.sheets.specs.Calls.{write_questions, write_sheet, places_at, places_in, fourteens_at}
use Rattle.sheets.specs.Calls.{head_questions, body_questions, read_questions, read_sheet}
use Rattle.shuffle.specs.Shuffled.{shuffle_call}
use Rattle.records.specs.declared.Permutation.{Permutation}
use Rattle.records.specs.Records.{replied, length_asks, from_list_asks, exchange_asks, combine_asks, questions_of, record_of, list_of}
use Rattle.network.specs.Blocks.{cut}
use Rattle.gauges.specs.declared.Figures.{Figures}
use Rattle.gauges.specs.Blocks.{readings_of}
use Rattle.gauges.specs.Figures.{figures_of}
use Rattle.gauges.specs.Calls.{report_questions, report_of, report_call}
use Rattle.wirings.specs.declared.Topology.{Topology}
use Rattle.convert.specs.Calls.{convert_questions, convert_call}
use Rattle.cmd_read_order.specs.Orders.{count_in, entries_at, order_in, form_questions, entry_questions, order_questions, order_report}
use Rattle.claims.specs.PublicCalls.{PublicCall, logging, converting, drawing, writing_sheet, reading_sheet}
use Rattle.claims.specs.PublicCalls.{reading_number, reading_order, reporting, fresh, from_list, exchanging}
use Rattle.claims.specs.PublicCalls.{combining, inverting, asking_home, with_record, asks}
use Rattle.claims.specs.Demands.{Demand1}
use Rattle.claims.proofs.Settled.{Settles, settled-asks}
use Rattle.claims.proofs.Demands.{call_settles}

-- ---- calls on settings and orders

convert_settles : (from : Topology) (n : ℕ) (given out : List ℕ) → Settles (asks (converting from n given out))
unfolding convert_questions convert_call
convert_settles from n given out =
    record {
      numbered = (omega arith, (omega arith, (omega arith, (omega arith, tt))));
      answers = refl;
      kept = λ e. rw e;
      given_up = λ e. refl;
    }

draw_settles : (n : ℕ) (words out : List ℕ) → Settles (asks (drawing n words out))
unfolding shuffle_call
draw_settles n words out =
    record {
      numbered = (omega arith, (omega arith, (omega arith, tt)));
      answers = refl;
      kept = λ e. rw e;
      given_up = λ e. rw e;
    }

-- ---- sheets, and the readers

write_settles : (n : ℕ) (bits out : List ℕ) → Settles (asks (writing_sheet n bits out))
unfolding write_questions write_sheet
write_settles n bits out =
    record {
      numbered = (omega arith, (omega arith, (omega arith, (omega arith, tt))));
      answers = refl;
      kept = λ e. rw e;
      given_up = λ e. refl;
    }

number_answer_lem : (v : Verdict) (value next : ℕ) → (number_answer v value next).answer ≡ answer_of v 0
number_answer_lem all_yes value next = refl
number_answer_lem (no_at q p) value next = refl

number_settles : (input : List ℕ) (at : ℕ) → Settles (asks (reading_number input at))
unfolding number_at
number_settles input at =
    record {
      numbered = numbered input at;
      answers = number_answer_lem (first_no (number_questions input at)) (value_at input at) (place_after input at);
      kept = λ e. refl;
      given_up = λ e. rw e;
    }

row_numbered : (input : List ℕ) (k at : ℕ) → Numbered (numbers_questions sevens k input at)
row_numbered input = numbered_row sevens input (numbered input)

head_numbered : (input : List ℕ) (room : ℕ) → Numbered (head_questions input room)
unfolding head_questions
head_numbered input room =
    let at = places_at input in
    numbered_both (number_questions input 0) _ (numbered input 0)
    (omega arith, numbered_both (number_questions input at) _ (numbered input at) (omega arith, (omega arith, tt)))

body_numbered : (input : List ℕ) (w at : ℕ) → Numbered (body_questions input w at)
unfolding body_questions
body_numbered input w at =
    let k = numbers_for w in
    numbered_both (numbers_questions sevens k input at) _ (row_numbered input k at) (omega arith, (omega arith, tt))

read_settles : (input bits : List ℕ) → Settles (asks (reading_sheet input bits))
unfolding read_questions read_sheet
read_settles input bits =
    record {
      numbered =
          numbered_both (head_questions input (length bits)) (body_questions input (W (places_in input)) (fourteens_at input))
          (head_numbered input (length bits)) (body_numbered input (W (places_in input)) (fourteens_at input));
      answers = refl;
      kept = λ e. rw e;
      given_up = λ e. refl;
    }

form_numbered : (input : List ℕ) → Numbered (form_questions input)
unfolding form_questions
form_numbered input =
    numbered_both (number_questions input 0) _ (numbered input 0) (
      omega arith,
      numbered_both (numbers_questions sevens (count_in input) input (entries_at input)) _
          (row_numbered input (count_in input) (entries_at input)) (omega arith, tt),
    )

order_settles : (input bits : List ℕ) → Settles (asks (reading_order input bits))
unfolding order_questions order_report
order_settles input bits =
    record {
      numbered = numbered_both (form_questions input) (entry_questions (order_in input)) (form_numbered input) (omega arith, tt);
      answers = refl;
      kept = λ e. rw e;
      given_up = λ e. rw e;
    }

report_answer : (v : Verdict) (figures : Figures) → (report_of v figures).answer ≡ answer_of v 0
report_answer all_yes figures = refl
report_answer (no_at q p) figures = refl

report_settles : (n width : ℕ) (blocks : List ℕ) (gauge : ℕ) → Settles (asks (reporting n width blocks gauge))
unfolding report_questions report_call
report_settles n width blocks gauge =
    record {
      numbered = (omega arith, (omega arith, (omega arith, tt)));
      answers = report_answer (first_no (report_questions n width (length blocks))) (figures_of (readings_of gauge (cut width n blocks)));
      kept = λ e. refl;
      given_up = λ e. rw e;
    }

-- ---- records

record_settles : (qs : List Question) (count : ℕ) (result refused : Permutation) → Numbered qs
    → Settles (with_record refused qs (replied qs count result refused) count)
unfolding replied
record_settles qs count result refused N = record { numbered = N; answers = refl; kept = λ e. refl; given_up = λ e. rw e }

record_numbered : (p : Permutation) → Numbered (questions_of p)
record_numbered p = (omega arith, (omega arith, (omega arith, tt)))

exchange_numbered : (p : Permutation) (i j : ℕ) → Numbered (exchange_asks p i j)
exchange_numbered p i j = (omega arith, (omega arith, (omega arith, (omega arith, tt))))

combine_numbered : (p q : Permutation) → Numbered (combine_asks p q)
combine_numbered p q = (omega arith, (omega arith, (omega arith, (omega arith, (omega arith, (omega arith, (omega arith, tt)))))))

-- ---- all of them

settles : (c : PublicCall) → Settles (asks c)
settles (logging c) = call_settles c
settles (converting from n given out) = convert_settles from n given out
settles (drawing n words out) = draw_settles n words out
settles (writing_sheet n bits out) = write_settles n bits out
settles (reading_sheet input bits) = read_settles input bits
settles (reading_number input at) = number_settles input at
settles (reading_order input bits) = order_settles input bits
settles (reporting n width blocks gauge) = report_settles n width blocks gauge
settles (fresh n) = record_settles (length_asks n) 0 (record_of (identity n)) (record_of []) (omega arith, tt)
settles (from_list list) = record_settles (from_list_asks list) 0 (record_of list) (record_of []) (omega arith, (omega arith, tt))
settles (exchanging p i j) =
    record_settles (exchange_asks p i j) 0 (record_of (exchanged (list_of p) i j)) p (exchange_numbered p i j)
settles (combining p q) =
    record_settles (combine_asks p q) 0 (record_of (combined (list_of p) (list_of q))) p (combine_numbered p q)
settles (inverting p) = record_settles (questions_of p) 0 (record_of (inverted (list_of p))) p (record_numbered p)
settles (asking_home p) = record_settles (length_asks p.length) p.fixed p p (omega arith, tt)

pub demand1 : (c : PublicCall) → Demand1 (asks c)
demand1 c = settled-asks (asks c) (settles c)
