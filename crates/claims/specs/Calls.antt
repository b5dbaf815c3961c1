-- A call that keeps a log, with everything that it is handed; and all that the demands speak of, said once for each call.
-- The outcomes are those with which the contracts of the code equate the answer and the lent memory at exit.
-- Assumes nothing: these are definitions.
use Rattle.std.specs.Prelude.{◌≡◌, List, [], ◌∷◌, ℕ, ◌*◌, length, take}
use Rattle.answers.specs.Questions.{Question}
use Rattle.answers.specs.Outcomes.{Logged, logged}
use Rattle.counts.specs.Counts.{W, E}
use Rattle.network.specs.Wiring.{Wiring, paper}
use Rattle.network.specs.Network.{network}
use Rattle.network.specs.Blocks.{cut, bytes_of, moved, moved_back}
use Rattle.network.specs.Log.{Entry, entry_words, apply_entries, inverse_entries, run}
use Rattle.network.specs.ByNumber.{mixing_bit, returning_bit, run_by_number}
use Rattle.canonical.specs.Rule.{Canonical}
use Rattle.steps.specs.Sequence.{set_entries}
use Rattle.steps.specs.State.{State, start}
use Rattle.steps.specs.Run.{run_set}
use Rattle.steps.specs.ByLookup.{run_by_lookup}
use Rattle.apply_questions.specs.Questions.{apply_questions}
use Rattle.wirings.specs.declared.Topology.{Topology}
use Rattle.wirings.specs.declared.Topology.TheVariants.{Paper}
use Rattle.wirings.specs.Nets.{wiring_of}
use Rattle.apply.specs.Calls.{apply_call_in, inverse_call_in}
use Rattle.control.specs.Calls.{set_questions, set_call_in}
use Rattle.orders_listed.specs.Ranks.{order_at}
use Rattle.listed_order.specs.Calls.{Ranked, ranked_questions, ranked_call}

-- ---- the calls

-- forward and backward through the network
pub data Direction : Type 0 where
  mixing : Direction
  returning : Direction

-- set: the wiring, an order, the bits and the log; mix and return: the wiring, n, the width, the blocks, the bits and the log;
-- rank (02, F-3), in the paper's wiring: n, the number r of an order, the order's list, the bits and the log
pub data Call : Type 0 where
  set : (t : Topology) (order bits log : List ℕ) → Call
  move : (t : Topology) (d : Direction) (n width : ℕ) (blocks bits log : List ℕ) → Call
  rank : (n r : ℕ) (list bits log : List ℕ) → Call

abbrev pub mix : (t : Topology) (n width : ℕ) (blocks bits log : List ℕ) → Call
mix t n width blocks bits log = move t mixing n width blocks bits log

abbrev pub return : (t : Topology) (n width : ℕ) (blocks bits log : List ℕ) → Call
return t n width blocks bits log = move t returning n width blocks bits log

-- ---- what follows from a call's wiring, kind and n alone

pub data Kind : Type 0 where
  setting : Kind
  moving : Direction → Kind
  ranking : Kind

-- 01: 'exactly the sequence given here for its n'
abbrev pub entries_due : Topology → Kind → ℕ → List Entry
entries_due t setting n = set_entries (wiring_of t) n
entries_due t (moving mixing) n = apply_entries (wiring_of t) n
entries_due t (moving returning) n = inverse_entries (wiring_of t) n
entries_due t ranking n = set_entries (wiring_of t) n

-- the definition's count of them, in every wiring
abbrev pub count_due : Kind → ℕ → ℕ
count_due setting n = E n
count_due (moving d) n = W n
count_due ranking n = E n

-- ---- what mix and return differ in

abbrev pub move_call : Wiring → Direction → (n width : ℕ) (blocks bits log : List ℕ) → Logged
move_call w mixing n width blocks bits log = apply_call_in w n width blocks bits log
move_call w returning n width blocks bits log = inverse_call_in w n width blocks bits log

-- the blocks as the wiring moves them under the bits
abbrev pub moved_by : Wiring → Direction → (n width : ℕ) (bits blocks : List ℕ) → List ℕ
moved_by w mixing n width bits blocks = moved w n width bits blocks
moved_by w returning n width bits blocks = moved_back w n width bits blocks

-- 01: the bit that entry e uses, by its number
abbrev pub bit_of : Direction → (n : ℕ) (bits : List ℕ) → ℕ → ℕ
bit_of mixing n bits = mixing_bit bits
bit_of returning n bits = returning_bit n bits

-- ---- what rank comes to, as a call that keeps a log

-- the buffer that it fills is the bits; the order's list is lent beside
abbrev pub as_logged : Ranked → Logged
as_logged o = logged o.answer o.bits o.log

-- ---- each call, described

pub record Described : Type 1 where
  -- its wiring, its kind, and n
  pub wiring : Topology
  pub kind : Kind
  pub places : ℕ
  -- what it asks, and what it comes to
  pub questions : List Question
  pub outcome : Logged
  -- the lent buffer that it is to fill, and the lent log, as they were lent
  pub buffer : List ℕ
  pub log : List ℕ
  -- lent memory that it may write beside these two, as it was lent and as the call leaves it
  pub beside : List (List ℕ)
  pub beside_left : List (List ℕ)
  -- running entries as a log: what they act on, as the call's own input that was lent gives it (of a listed order: as the order
  -- that r names does), what entries make of it with the bits at their fourth words (02, F-7), what the same entries make of it by
  -- 01's own rule, which reads no fourth word, and what of it is left at the end
  pub Working : Type 0
  pub begun : Working
  pub act : List Entry → Working → Working
  pub act_by_rule : List Entry → Working → Working
  pub end : Working → List ℕ
  -- what has to be left
  pub Right : List ℕ → Type 0

abbrev pub described : Call → Described
described (set t order bits log) =
    record {
      wiring = t;
      kind = setting;
      places = length order;
      questions = set_questions order bits log;
      outcome = set_call_in (wiring_of t) order bits log;
      buffer = bits;
      log = log;
      beside = [];
      beside_left = [];
      Working = State;
      begun = start order;
      act = run_set (wiring_of t) (length order);
      act_by_rule = run_by_lookup (wiring_of t) (length order);
      end = λ x. x.bits;
      -- demand 2's setting
      Right = λ left. Canonical (wiring_of t) (network (length order)) order left;
    }
described (move t d n width blocks bits log) =
    record {
      wiring = t;
      kind = moving d;
      places = n;
      questions = apply_questions n width (length blocks) bits (length log);
      outcome = move_call (wiring_of t) d n width blocks bits log;
      buffer = blocks;
      log = log;
      beside = [];
      beside_left = [];
      Working = List (List ℕ);
      begun = cut width n blocks;
      act = run [] bits;
      act_by_rule = run_by_number [] (bit_of d n bits) 0;
      end = bytes_of;
      -- the blocks as the wiring moves them under the lent bits
      Right = λ left. left ≡ moved_by (wiring_of t) d n width bits blocks;
    }
described (rank n r list bits log) =
    record {
      wiring = Paper;
      kind = ranking;
      places = n;
      questions = ranked_questions n r list bits log;
      outcome = as_logged (ranked_call n r list bits log);
      buffer = bits;
      log = log;
      beside = list ∷ [];
      beside_left = (ranked_call n r list bits log).list ∷ [];
      Working = State;
      begun = start (order_at n r);
      act = run_set paper (length (order_at n r));
      act_by_rule = run_by_lookup paper (length (order_at n r));
      end = λ x. x.bits;
      -- the setting of the r-th order
      Right = λ left. Canonical paper (network n) (order_at n r) left;
    }

-- what entries leave that are run as the whole log of a call
abbrev pub replay : Call → List Entry → List ℕ
replay c es = (described c).end ((described c).act es (described c).begun)

-- .. and by 01's own rule
abbrev pub replay_by_rule : Call → List Entry → List ℕ
replay_by_rule c es = (described c).end ((described c).act_by_rule es (described c).begun)

-- ---- what a call did

abbrev pub outcome_of : Call → Logged
outcome_of c = (described c).outcome

-- the wiring that it is in
abbrev pub wiring_of_call : Call → Topology
wiring_of_call c = (described c).wiring

-- a call is accepted when every question gets a yes: number 0
abbrev pub Accepted : Call → Type 0
Accepted c = (outcome_of c).answer.number ≡ 0

-- the entries that it reports, and those due
abbrev pub count_of : Call → ℕ
count_of c = (outcome_of c).answer.count

abbrev pub due : Call → ℕ
due c = count_due (described c).kind (described c).places

abbrev pub due_entries : Call → List Entry
due_entries c = entries_due (wiring_of_call c) (described c).kind (described c).places

-- the whole log that it wrote: four words for each entry that it reports
abbrev pub written : Call → List ℕ
written c = take (entry_words * count_of c) (outcome_of c).log
