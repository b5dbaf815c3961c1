-- Every public call (README, 'The calls'), and what demand 1 speaks of, said once for each. The outcomes are those with which the
-- contracts of the code equate the answer, what stands beside it, and the lent memory at exit.
-- Assumes nothing: these are definitions.
use Rattle.std.specs.Prelude.{List, [], ◌∷◌, ℕ, length, replicate}
use Rattle.answers.specs.declared.Answer.{Answer}
use Rattle.answers.specs.Questions.{Question}
use Rattle.numbers.specs.Numbers.{number_questions, number_at}
use Rattle.sheets.specs.Sheet.{sheet}
use Rattle.sheets.specs.Calls.{write_questions, write_sheet, places_in, read_questions, read_sheet}
use Rattle.shuffle.specs.Shuffled.{shuffle_asks, shuffle_call}
use Rattle.records.specs.declared.Permutation.{Permutation}
use Rattle.records.specs.declared.Reply.{Reply}
use Rattle.records.specs.Records.{record_of, length_asks, from_list_asks, exchange_asks, combine_asks, questions_of}
use Rattle.records.specs.Records.{identity_call, from_list_call, exchange_call, combine_call, inverse_call, fixed_points_call}
use Rattle.gauges.specs.declared.Figures.{Figures}
use Rattle.gauges.specs.Figures.{no_figures}
use Rattle.gauges.specs.Calls.{report_questions, report_call}
use Rattle.wirings.specs.declared.Topology.{Topology}
use Rattle.convert.specs.Calls.{convert_questions, convert_call}
use Rattle.cmd_read_order.specs.Orders.{count_in, order_questions, order_report}
use Rattle.claims.specs.Calls.{Call, described, outcome_of, due}

-- ---- the calls, each with everything that it is handed

pub data PublicCall : Type 0 where
  -- those that keep a log: set, mix and return in either wiring, and the listed order
  logging : Call → PublicCall
  -- the converter, from one wiring into the other
  converting : (from : Topology) (n : ℕ) (given out : List ℕ) → PublicCall
  drawing : (n : ℕ) (words out : List ℕ) → PublicCall
  writing_sheet : (n : ℕ) (bits out : List ℕ) → PublicCall
  reading_sheet : (input bits : List ℕ) → PublicCall
  -- the number reader, at a place
  reading_number : (input : List ℕ) (at : ℕ) → PublicCall
  -- the input of the program "settings"
  reading_order : (input bits : List ℕ) → PublicCall
  -- a gauge's report
  reporting : (n width : ℕ) (blocks : List ℕ) (gauge : ℕ) → PublicCall
  -- on records: fresh, from a list, exchange, combine, inverse, and how many entries stay home
  fresh : (n : ℕ) → PublicCall
  from_list : (list : List ℕ) → PublicCall
  exchanging : (handed : Permutation) (i j : ℕ) → PublicCall
  combining : (first second : Permutation) → PublicCall
  inverting : (handed : Permutation) → PublicCall
  asking_home : (handed : Permutation) → PublicCall

-- ---- what demand 1 speaks of

pub record Asks : Type 1 where
  -- the questions in their sequence, the answer, and the count that success has to report
  pub questions : List Question
  pub answer : Answer
  pub count : ℕ
  -- all memory that the call may write, as it was lent and as the call leaves it
  pub lent : List (List ℕ)
  pub left : List (List ℕ)
  -- what stands beside the answer, numbers or a record, and what has to stand there in a refusal
  pub Beside : Type 0
  pub beside : Beside
  pub beside_refused : Beside

-- numbers beside the answer, or none: 'each is 0 in a refusal'
abbrev pub with_numbers : (numbers : List ℕ) (qs : List Question) → Answer → (count : ℕ) (lent left : List (List ℕ)) → Asks
with_numbers numbers qs answer count lent left =
    record {
      questions = qs;
      answer = answer;
      count = count;
      lent = lent;
      left = left;
      Beside = List ℕ;
      beside = numbers;
      beside_refused = replicate (length numbers) 0;
    }

abbrev pub with_none : (qs : List Question) → Answer → (count : ℕ) (lent left : List (List ℕ)) → Asks
with_none qs answer count lent left = with_numbers [] qs answer count lent left

-- a record: refused, the call returns the one named here
abbrev pub with_record : (refused : Permutation) (qs : List Question) → Reply → (count : ℕ) → Asks
with_record refused qs reply count =
    record {
      questions = qs;
      answer = reply.answer;
      count = count;
      lent = [];
      left = [];
      Beside = Permutation;
      beside = reply.permutation;
      beside_refused = refused;
    }

-- the record of length 0
abbrev pub no_record : Permutation
no_record = record_of []

abbrev pub asks : PublicCall → Asks
asks (logging c) =
    let o = outcome_of c in
    with_none (described c).questions o.answer (due c) ((described c).buffer ∷ (described c).log ∷ (described c).beside)
    (o.buffer ∷ o.log ∷ (described c).beside_left)
asks (converting from n given out) =
    let o = convert_call from n given out in
    with_none (convert_questions n given out) o.answer 0 (out ∷ []) (o.buffer ∷ [])
asks (drawing n words out) =
    let o = shuffle_call n words out in
    with_numbers (o.used ∷ []) (shuffle_asks n words out) o.answer n (out ∷ []) (o.buffer ∷ [])
asks (writing_sheet n bits out) =
    let o = write_sheet n bits out in
    with_none (write_questions n bits (length out)) o.answer (length (sheet n bits)) (out ∷ []) (o.buffer ∷ [])
asks (reading_sheet input bits) =
    let o = read_sheet input bits in
    with_none (read_questions input (length bits)) o.answer (places_in input) (bits ∷ []) (o.buffer ∷ [])
asks (reading_number input at) =
    let o = number_at input at in
    with_numbers (o.value ∷ o.next ∷ []) (number_questions input at) o.answer 0 [] []
asks (reading_order input bits) =
    let o = order_report input bits in
    with_numbers (o.entries ∷ []) (order_questions input) o.outcome.answer (count_in input) (bits ∷ []) (o.outcome.buffer ∷ [])
asks (reporting n width blocks gauge) =
    let o = report_call n width blocks gauge in
    record {
      questions = report_questions n width (length blocks);
      answer = o.answer;
      count = 0;
      lent = [];
      left = [];
      Beside = Figures;
      beside = o.figures;
      beside_refused = no_figures;
    }
asks (fresh n) = with_record no_record (length_asks n) (identity_call n) 0
asks (from_list list) = with_record no_record (from_list_asks list) (from_list_call list) 0
asks (exchanging handed i j) = with_record handed (exchange_asks handed i j) (exchange_call handed i j) 0
asks (combining first second) = with_record first (combine_asks first second) (combine_call first second) 0
asks (inverting handed) = with_record handed (questions_of handed) (inverse_call handed) 0
asks (asking_home handed) = with_record handed (length_asks handed.length) (fixed_points_call handed) handed.fixed
