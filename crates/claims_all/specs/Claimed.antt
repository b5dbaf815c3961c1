-- EVERYTHING THAT IS CLAIMED: the record `Claimed` at the end, with a field for each demand of 01, for its month table, for the whole job,
-- and for each request of 02. Each field is a statement about everything that it names. What its words mean stands above it, and in the
-- specs/ that the `use` lines name. proofs/Claimed proves the record.
-- That the calls as code come to the outcomes of which these statements speak, and ask nothing of their callers, is the contract of each,
-- in its crate's src/.
-- Assumes nothing: these are definitions.
use Rattle.std.specs.Prelude.{◌≡◌, true, ◌↔◌, ℕ, suc, ◌+◌, ◌-◌, ◌*◌, ◌/◌, ◌^◌, ◌≤◌, ◌<◌, ℤ, length, get_or}
use mathlib.Core.List.{List, map, Memᴰ}
use Rattle.answers.specs.Answers.{accepted}
use Rattle.answers.specs.Questions.{all_yes, first_no}
use Rattle.counts.specs.Counts.{W, L}
use Rattle.network.specs.Network.{network}
use Rattle.network.specs.Blocks.{moved, moved_back, order_of}
use Rattle.canonical.specs.Rule.{Canonical}
use Rattle.canonical.specs.Obeys.{Obeys}
use Rattle.permutation.specs.Permutations.{IsPermutation, fixed_points}
use Rattle.records.specs.declared.Permutation.{Permutation}
use Rattle.records.specs.Records.{record_of, list_of, reply, fixed_points_call}
use Rattle.records.specs.Made.{Made}
use Rattle.shuffle_fair.specs.Words.{chosen}
use Rattle.shuffle_fair.specs.Fair.{words_leaving, UsedWords}
use Rattle.shuffle.specs.Shuffled.{order_from, words_exchanging}
use Rattle.wirings.specs.declared.Topology.{Topology}
use Rattle.wirings.specs.declared.Topology.TheVariants.{Paper}
use Rattle.wirings.specs.Nets.{wiring_of}
use Rattle.control.specs.Calls.{set_call}
use Rattle.apply.specs.Calls.{apply_call, inverse_call}
use Rattle.convert.specs.Calls.{convert_call}
use Rattle.orders_listed.specs.Ranks.{factorial, order_at, Before}
use Rattle.gauges.specs.Blocks.{gauge_in}
use Rattle.gauges.specs.Figures.{floor_mean, floor_remainder}
use Rattle.gauges.specs.Floors.{Floored, Same}
use Rattle.cmd_chart.specs.Gauges.{gauges_in}
use Rattle.cmd_chart.specs.Chart.{chart_text}
use Rattle.cmd_list.specs.Listing.{length_in, list_questions, orders_text}
use Rattle.cmd_list.specs.Lines.{OneLineEach}
use Rattle.claims.specs.Calls.{Call, set, mix, return, rank, outcome_of, Accepted}
use Rattle.claims.specs.PublicCalls.{PublicCall, asks}
use Rattle.claims.specs.Demands.{Demand1, Demand3}
use Rattle.claims.specs.Carrying.{Demand2, SheetsReadBack}
use Rattle.claims.specs.Month.{run_case, expected, cases}
use Rattle.claims.specs.Charts.{SameReport}
use Rattle.claims.specs.Ranks.{AsSet, Treated}
use Rattle.claims.specs.Converting.{Converted}
use Rattle.claims.specs.Positions.{FromTheMiddle}
use Rattle.claims_job.specs.Job.{Job}

-- ---- 01

-- what canonical means, of one order in one wiring: 'A setting carries the order', and it obeys the house rule in every network
pub record CanonicalMeans (wiring : Topology) (n : ℕ) (order : List ℕ) : Type 0 where
  pub carries : (bits : List ℕ) → Canonical (wiring_of wiring) (network n) order bits → order_of (wiring_of wiring) n bits ≡ order
  pub obeys : (bits : List ℕ) → Canonical (wiring_of wiring) (network n) order bits → Obeys (wiring_of wiring) (network n) order bits
  -- and whatever does both is canonical
  pub both : (bits : List ℕ) → order_of (wiring_of wiring) n bits ≡ order → Obeys (wiring_of wiring) (network n) order bits
      → Canonical (wiring_of wiring) (network n) order bits

-- set, mix and return of 01 are those of the demands, in the paper's wiring
pub record PaperCalls : Type 0 where
  pub set_call : (order bits log : List ℕ) → set_call order bits log ≡ outcome_of (set Paper order bits log)
  pub mix_call : (n width : ℕ) (blocks bits log : List ℕ)
      → apply_call n width blocks bits log ≡ outcome_of (mix Paper n width blocks bits log)
  pub return_call : (n width : ℕ) (blocks bits log : List ℕ)
      → inverse_call n width blocks bits log ≡ outcome_of (return Paper n width blocks bits log)

-- ---- 02, F-1

pub record Chart : Type 0 where
  -- 'The mixed blocks must give the same report as the blocks at home'
  pub same_report : (wiring : Topology) (n : ℕ) (blocks bits log : List ℕ) (gauge : ℕ) → SameReport wiring n blocks bits log gauge
  -- 'the mean rounded towards minus infinity, and the remainder', of one reading and any number more: these two, and no others
  pub mean_rounded_down : (sum : ℤ) (more : ℕ) → Floored sum (suc more) (floor_mean sum (suc more)) (floor_remainder sum (suc more))
  pub mean_only : (sum : ℤ) (more : ℕ) (mean remainder : ℤ) → Floored sum (suc more) mean remainder → Same sum (suc more) mean remainder
  -- what the program prints is the same for mixed blocks
  pub same_chart_mixed : (wiring : Topology) (n : ℕ) (bits blocks : List ℕ) → length blocks ≡ n * 6
      → chart_text (moved (wiring_of wiring) n 6 bits blocks) ≡ chart_text blocks
  pub same_chart_returned : (wiring : Topology) (n : ℕ) (bits blocks : List ℕ) → length blocks ≡ n * 6
      → chart_text (moved_back (wiring_of wiring) n 6 bits blocks) ≡ chart_text blocks
  -- 'For each gauge present, lowest first'
  pub gauges_present : (gauge : ℕ) (blocks : List (List ℕ)) → Memᴰ gauge (map gauge_in blocks) ↔ Memᴰ gauge (gauges_in blocks)
  pub gauges_rise : (blocks : List (List ℕ)) (i j : ℕ) → i < j → j < length (gauges_in blocks)
      → get_or (gauges_in blocks) i 0 < get_or (gauges_in blocks) j 0

-- ---- 02, F-2

pub record CarriedCount : Type 0 where
  -- 'for every record that accepted operations made, that is the true count'
  pub made_true : {p : Permutation} → Made p → fixed_points_call p ≡ reply (accepted (fixed_points (list_of p))) p
  -- and every order of at most 1,024 places has such a record
  pub every_order : (n : ℕ) (order : List ℕ) → IsPermutation n order → n ≤ 1024 → Made (record_of order)

-- ---- 02, F-3

pub record SmallOrders : Type 0 where
  -- 'list all orders in dictionary order, each exactly once, with its setting'
  pub are_orders : (n r : ℕ) → r < factorial n → IsPermutation n (order_at n r)
  pub rising : (n r s : ℕ) → r < s → s < factorial n → Before (order_at n r) (order_at n s)
  -- 'Owners ask to see every order treated': each stands there once, and its call leaves it with its setting
  pub every_order_treated : (n : ℕ) (order : List ℕ) → n ≤ 6 → IsPermutation n order → Treated n order
  -- 'The call writes the log that set writes for that order'
  pub as_set : (n r : ℕ) (list bits log : List ℕ) → Accepted (rank n r list bits log) → AsSet n r list bits log
  -- the program 'prints a line for each order'
  pub one_line_each : (input : List ℕ) → first_no (list_questions input) ≡ all_yes → OneLineEach (length_in input) (orders_text input)

-- ---- 02, F-5

pub record FairDrawing : Type 0 where
  -- 'For each place, every remainder must now come from equally many words': of all words with so many places left, and place by place
  pub each_remainder : (places-left remainder : ℕ) → remainder < places-left
      → words_leaving places-left remainder ≡ 2 ^ 32 / places-left
  pub each_place : (n i j : ℕ) → i ≤ j → j < n → words_exchanging n i j ≡ 2 ^ 32 / (n - i)
  -- 'a word .. is skipped, and the next word is tried'; and what is drawn is an order, whatever the words
  pub words_used : (n : ℕ) (words : List ℕ) → (chosen n words).enough ≡ true → UsedWords n words
  pub an_order : (n : ℕ) (words : List ℕ) → (chosen n words).enough ≡ true → IsPermutation n (order_from n words)

-- ---- all of it

pub record Claimed : Type 0 where
  -- demand 1: 'A call is accepted when every question it asks gets a yes'; refused, it names the first no, and 'no lent buffer is
  -- written'
  pub demand1 : (call : PublicCall) → Demand1 (asks call)
  -- demand 2: 'Exactly one setting of each order obeys' the house rule; set leaves it, mixing by it carries each block to its place,
  -- the return brings it home
  pub demand2 : (wiring : Topology) (n : ℕ) (order : List ℕ) → n ≤ 1024 → IsPermutation n order → Demand2 wiring n order
  pub canonical_means : (wiring : Topology) (n : ℕ) (order : List ℕ) → IsPermutation n order → CanonicalMeans wiring n order
  -- and of sheets, in the paper's wiring: that of every setting reads back as that setting
  pub sheets_read_back : (n : ℕ) → n ≤ 1024 → SheetsReadBack n
  -- demand 3: 'one claim about whole logs': accepted calls alike in wiring, kind and n write the same log, and running a call's log
  -- from its own input gives what it left
  pub demand3 : (first second : Call) → Accepted first → Accepted second → Demand3 first second
  pub paper_calls : PaperCalls
  -- 'W(n) = n × L − 2^L + 1 for n ≥ 1'; the 1 is added first, since these numbers have nothing below 0
  pub switch_count : (n : ℕ) → 1 ≤ n → W n ≡ n * L (n - 1) + 1 - 2 ^ L (n - 1)
  -- the month cases: 'the twelve starred cases are proved from the definitions together, as one table with one claim'
  pub month : map run_case cases ≡ map expected cases
  -- the whole job: draw, sheet, mix, unmix and show, each on what the one before it wrote
  pub job : Job
  -- 02, F-1: 'Chart straight from the mixed archive'
  pub chart : Chart
  -- 02, F-2: 'Stay-home count kept in the open order'
  pub carried_count : CarriedCount
  -- 02, F-3: 'Every small order, listed'. F-4, 'Less read-only memory', changes no answer and claims nothing
  pub small_orders : SmallOrders
  -- 02, F-5: 'Fair drawing'
  pub fair_drawing : FairDrawing
  -- 02, F-6: the demands are of both wirings; 'A converter takes a setting of either wiring and gives the other wiring's house setting
  -- of the same order'
  pub converter : (from : Topology) (n : ℕ) (given out : List ℕ) → (convert_call from n given out).answer.number ≡ 0
      → Converted from n given out (convert_call from n given out).buffer
  -- 02, F-7: each entry names the position of its bits, and so a log is replayed from the middle
  pub from_the_middle : (call : Call) → Accepted call → FromTheMiddle call
