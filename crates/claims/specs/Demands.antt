-- Demands 1 and 3, as statements about the outcomes of calls: 1 of every public call, 3 of those that keep a log.
-- Assumes nothing: these are definitions.
use Rattle.std.specs.Prelude.{◌≡◌, ℕ, length}
use Rattle.answers.specs.Answers.{refusal, accepted}
use Rattle.answers.specs.Questions.{no_at, all_yes, first_no}
use Rattle.answers.specs.Buffers.{overlay}
use Rattle.network.specs.Log.{words, entries}
use Rattle.claims.specs.Calls.{Call, described, replay, replay_by_rule, outcome_of, wiring_of_call}
use Rattle.claims.specs.Calls.{count_of, due, due_entries, written}
use Rattle.claims.specs.PublicCalls.{Asks}

-- demand 1, of one public call
pub record Demand1 (a : Asks) : Type 0 where
  -- it is accepted exactly when every question gets a yes: number 0, place 0, and its count
  pub accepts : first_no a.questions ≡ all_yes → a.answer ≡ accepted a.count
  pub accepted_only : a.answer.number ≡ 0 → first_no a.questions ≡ all_yes
  -- refused, it names the first question that gets a no, with its place and count 0
  pub refuses : {q p : ℕ} → first_no a.questions ≡ no_at q p → a.answer ≡ refusal q p
  -- it leaves all lent memory as it was
  pub leaves_lent : {q p : ℕ} → first_no a.questions ≡ no_at q p → a.left ≡ a.lent
  -- and beside the answer stands 0 for each number, or the first record handed in or that of length 0
  pub gives_nothing : {q p : ℕ} → first_no a.questions ≡ no_at q p → a.beside ≡ a.beside_refused

-- what holds of the whole log of one accepted call
pub record Logs (c : Call) : Type 0 where
  -- it reports the definition's count, which is the number of entries that it wrote, and wrote exactly the sequence given for its
  -- wiring, kind and n
  pub count : count_of c ≡ due c
  pub counted : length (entries (written c)) ≡ count_of c
  pub exact : entries (written c) ≡ due_entries c
  -- nothing but the entries' words is written, and the log beyond them is as it was
  pub whole : written c ≡ words (entries (written c))
  pub beyond : (outcome_of c).log ≡ overlay (described c).log 0 (written c)
  -- running the whole log gives exactly what the call left, by the fourth words and by 01's own rule, and that is right
  pub replays : replay c (entries (written c)) ≡ (outcome_of c).buffer
  pub replays_by_rule : replay_by_rule c (entries (written c)) ≡ (outcome_of c).buffer
  pub right : (described c).Right (outcome_of c).buffer

-- the log rule compares calls in one wiring (02, F-6), alike in kind and n
pub record Alike (a b : Call) : Type 0 where
  pub wiring : wiring_of_call a ≡ wiring_of_call b
  pub kind : (described a).kind ≡ (described b).kind
  pub places : (described a).places ≡ (described b).places

-- demand 3, of two calls: accepted and alike they write the same log and report the same count, whatever else they were handed;
-- and each one's whole log replays
pub record Demand3 (a b : Call) : Type 0 where
  pub same_log : Alike a b → written a ≡ written b
  pub same_count : Alike a b → count_of a ≡ count_of b
  pub first : Logs a
  pub second : Logs b
