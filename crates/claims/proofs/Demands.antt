-- Demand 3: one claim about the whole logs of any two accepted calls; and what demand 1 needs of the calls that keep a log.
-- Assumes nothing.
use mathlib.Core.Path.{◌≡◌, refl, sym, ap, ◌∙◌}
use mathlib.Core.List.{List, [], ◌∷◌}
use Prim.Native.Nat.{ℕ, ◌*◌}
use lib.ListN.{length}
use Rattle.answers.specs.declared.Answer.{Answer}
use Rattle.answers.specs.Questions.{Verdict, no_at, all_yes, first_no, Numbered}
use Rattle.answers.specs.Buffers.{overlay}
use Rattle.answers.specs.Answers.{refusal}
use Rattle.answers.specs.Outcomes.{Logged, logged, settled_logged}
use Rattle.answers.proofs.Outcomes.{accepted_when, logged_refused}
use Rattle.counts.specs.Counts.{W, E}
use Rattle.network.specs.Wiring.{Wiring, Lawful, paper}
use Rattle.network.specs.Blocks.{cut, bytes_of, moved, moved_back}
use Rattle.network.specs.Log.{words, entries, run}
use Rattle.network.specs.ByNumber.{run_by_number}
use Rattle.network.proofs.Shape.{entries-words, length-apply_entries, length-inverse_entries}
use Rattle.network.proofs.Paper.{paper_lawful}
use Rattle.network.proofs.Blocks.{length_cut}
use Rattle.network.proofs.Run.{run_apply}
use Rattle.network.proofs.RunBack.{run_inverse}
use Rattle.network.proofs.Positions.{apply_by_number, inverse_by_number}
use Rattle.network.proofs.Moved.{length_moved, length-moved_back}
use Rattle.canonical.proofs.Only.{canonical_length}
use Rattle.steps.specs.Sequence.{set_entries}
use Rattle.steps.specs.State.{State, start}
use Rattle.steps.specs.Run.{run_set, setting_of}
use Rattle.steps.specs.ByLookup.{run_by_lookup}
use Rattle.steps.proofs.Lengths.{length-set_entries}
use Rattle.steps.proofs.Positions.{set_by_lookup}
use Rattle.steps_canonical.proofs.Whole.{setting_canonical}
use Rattle.apply_questions.specs.Questions.{apply_questions}
use Rattle.apply_questions.proofs.Asked.{passes, numbered}
use Rattle.control.specs.Calls.{set_call}
use Rattle.apply.specs.Calls.{apply_call, inverse_call}
use Rattle.wirings.specs.declared.Topology.{Topology}
use Rattle.wirings.specs.declared.Topology.TheVariants.{Paper}
use Rattle.wirings.specs.Nets.{wiring_of}
use Rattle.wirings.proofs.Halves.{lawful}
use Rattle.orders_listed.specs.Ranks.{order_at}
use Rattle.orders_listed.proofs.OrderAt.{length_order_at, order_permutation}
use Rattle.listed_order.specs.Calls.{ranked_call}
use Rattle.listed_order.proofs.Asked.{rank_asked, rank_numbered}
use Rattle.claims.specs.Calls.{Direction, mixing, returning, Call, set, move, mix, return, rank, moving}
use Rattle.claims.specs.Calls.{entries_due, count_due, move_call, moved_by, bit_of, described, replay, replay_by_rule}
use Rattle.claims.specs.Calls.{outcome_of, Accepted, count_of, due, due_entries, written}
use Rattle.claims.specs.PublicCalls.{logging, asks}
use Rattle.claims.specs.Demands.{Logs, Demand3}
use Rattle.claims.proofs.Asked.{set-asked, set_numbered}
use Rattle.claims.proofs.Settled.{Settles, Left, left}

-- ---- all that the demands need of a call

abbrev pub asked : Call → Verdict
asked c = first_no (described c).questions

abbrev pub result_of : Call → List ℕ
result_of (set t order bits log) = setting_of (wiring_of t) order (set_entries (wiring_of t) (length order))
result_of (move t d n width blocks bits log) = moved_by (wiring_of t) d n width bits blocks
result_of (rank n r list bits log) = setting_of paper (order_at n r) (set_entries paper n)

record Laws (c : Call) : Type 0 where
  settles : outcome_of c
      ≡ settled_logged (asked c) (due c) (result_of c) (described c).buffer (words (due_entries c)) (described c).log
  kept : {q p : ℕ} → asked c ≡ no_at q p → (described c).beside_left ≡ (described c).beside
  all_numbered : Numbered (described c).questions
  counted : length (due_entries c) ≡ due c
  runs : replay c (due_entries c) ≡ result_of c
  runs_by_rule : replay_by_rule c (due_entries c) ≡ result_of c
  right : asked c ≡ all_yes → (described c).Right (result_of c)
  fills : asked c ≡ all_yes → length (result_of c) ≡ length (described c).buffer

-- the setter's entries run by 01's rule on an order of m places
set_by_rule : {w : Wiring} → Lawful w → (n m : ℕ) (x : State) → m ≡ n
    → run_by_lookup w m (set_entries w n) x ≡ run_set w m (set_entries w n) x
set_by_rule {w} L n m x long = rw long (sym (set_by_lookup w L n x))

module _ (t : Topology) (order bits log : List ℕ) where
  set_right : asked (set t order bits log) ≡ all_yes → (described (set t order bits log)).Right (result_of (set t order bits log))
  set_right e = setting_canonical (lawful t) (length order) order (set-asked order bits log e).permutation

  set_laws : Laws (set t order bits log)
  set_laws =
      let n = length order in
      record {
        settles = refl;
        kept = λ e. refl;
        all_numbered = set_numbered order bits log;
        counted = length-set_entries (wiring_of t) n;
        runs = refl;
        runs_by_rule = ap (λ (x : State). x.bits) (set_by_rule (lawful t) n n (start order) refl);
        right = set_right;
        fills = λ e.
            canonical_length (wiring_of t) n order (result_of (set t order bits log)) (set_right e)
            ∙ sym (set-asked order bits log e).bit_count;
      }

pub length-moved_by : {w : Wiring} → Lawful w → (d : Direction) (n width : ℕ) (bits blocks : List ℕ) → length blocks ≡ n * width
    → length (moved_by w d n width bits blocks) ≡ n * width
length-moved_by L mixing n width bits blocks fill = length_moved L n width bits blocks fill
length-moved_by L returning n width bits blocks fill = length-moved_back L n width bits blocks fill

module _ (t : Topology) (n width : ℕ) (blocks bits log : List ℕ) where
  move_settles : (d : Direction) → move_call (wiring_of t) d n width blocks bits log
      ≡ settled_logged (first_no (apply_questions n width (length blocks) bits (length log))) (W n)
      (moved_by (wiring_of t) d n width bits blocks) blocks (words (entries_due t (moving d) n)) log
  move_settles mixing = refl
  move_settles returning = refl

  move_counted : (d : Direction) → length (entries_due t (moving d) n) ≡ W n
  move_counted mixing = length-apply_entries (wiring_of t) n
  move_counted returning = length-inverse_entries (wiring_of t) n

  move_runs : (d : Direction)
      → bytes_of (run [] bits (entries_due t (moving d) n) (cut width n blocks)) ≡ moved_by (wiring_of t) d n width bits blocks
  unfolding moved moved_back
  move_runs mixing = ap bytes_of (run_apply [] (lawful t) n bits (cut width n blocks) (length_cut width n blocks))
  move_runs returning = ap bytes_of (run_inverse [] (lawful t) n bits (cut width n blocks) (length_cut width n blocks))

  move_by_rule : (d : Direction)
      → bytes_of (run_by_number [] (bit_of d n bits) 0 (entries_due t (moving d) n) (cut width n blocks))
      ≡ moved_by (wiring_of t) d n width bits blocks
  move_by_rule mixing = ap bytes_of (sym (apply_by_number [] (wiring_of t) n bits (cut width n blocks))) ∙ move_runs mixing
  move_by_rule returning = ap bytes_of (sym (inverse_by_number [] (wiring_of t) n bits (cut width n blocks))) ∙ move_runs returning

  move_laws : (d : Direction) → Laws (move t d n width blocks bits log)
  move_laws d =
      record {
        settles = move_settles d;
        kept = λ e. refl;
        all_numbered = numbered n width (length blocks) bits (length log);
        counted = move_counted d;
        runs = move_runs d;
        runs_by_rule = move_by_rule d;
        right = λ e. refl;
        fills = λ e.
            let fill = (passes n width (length blocks) bits (length log) e).whole in
            length-moved_by (lawful t) d n width bits blocks fill ∙ sym fill;
      }

module _ (n r : ℕ) (list bits log : List ℕ) where
  -- the call runs the entries of as many places as the order has: n
  rank_settles : outcome_of (rank n r list bits log)
      ≡ settled_logged (asked (rank n r list bits log)) (E n) (result_of (rank n r list bits log)) bits (words (set_entries paper n)) log
  unfolding ranked_call
  rank_settles = rw (length_order_at n r)

  rank_kept : {q p : ℕ} → asked (rank n r list bits log) ≡ no_at q p → (ranked_call n r list bits log).list ∷ [] ≡ list ∷ []
  unfolding ranked_call
  rank_kept e = rw e

  rank_right : asked (rank n r list bits log) ≡ all_yes
      → (described (rank n r list bits log)).Right (result_of (rank n r list bits log))
  rank_right e = setting_canonical paper_lawful n (order_at n r) (order_permutation n r (rank_asked n r list bits log e).rank_below)

  rank_laws : Laws (rank n r list bits log)
  unfolding wiring_of
  rank_laws =
      record {
        settles = rank_settles;
        kept = rank_kept;
        all_numbered = rank_numbered n r list bits log;
        counted = length-set_entries paper n;
        runs = refl;
        runs_by_rule =
            ap (λ (x : State). x.bits)
            (set_by_rule paper_lawful n (length (order_at n r)) (start (order_at n r)) (length_order_at n r));
        right = rank_right;
        fills = λ e.
            canonical_length paper n (order_at n r) (result_of (rank n r list bits log)) (rank_right e)
            ∙ sym (rank_asked n r list bits log e).bit_count;
      }

laws : (c : Call) → Laws c
laws (set t order bits log) = set_laws t order bits log
laws (move t d n width blocks bits log) = move_laws t n width blocks bits log d
laws (rank n r list bits log) = rank_laws n r list bits log

-- as many entries as are due
pub due-counted : (c : Call) → length (due_entries c) ≡ due c
due-counted c = (laws c).counted

-- ---- the calls of 01 are those in the paper's wiring

pub paper-set : (order bits log : List ℕ) → set_call order bits log ≡ outcome_of (set Paper order bits log)
unfolding set_call wiring_of
paper-set order bits log = refl

module _ (n width : ℕ) (blocks bits log : List ℕ) where
  pub paper-mix : apply_call n width blocks bits log ≡ outcome_of (mix Paper n width blocks bits log)
  unfolding apply_call wiring_of
  paper-mix = refl

  pub paper-return : inverse_call n width blocks bits log ≡ outcome_of (return Paper n width blocks bits log)
  unfolding inverse_call wiring_of
  paper-return = refl

-- ---- demand 1, of a call that keeps a log (of every call: proofs/PublicCalls)

pub accepted_passes : (c : Call) → Accepted c → asked c ≡ all_yes
accepted_passes c e =
    accepted_when (described c).questions (due c) (laws c).all_numbered
    (sym (ap (λ (o : Logged). o.answer.number) (laws c).settles) ∙ e)

pub leaves : (c : Call) → asked c ≡ all_yes → Left (due c) (result_of c) (due_entries c) (described c).log (outcome_of c)
leaves c e =
    rw (laws c).settles
    (left (asked c) (due c) (result_of c) (described c).buffer (due_entries c) (described c).log e (laws c).counted ((laws c).fills e))

pub left_right : (c : Call) → asked c ≡ all_yes → (described c).Right (outcome_of c).buffer
left_right c e = rw (leaves c e).buffer ((laws c).right e)

pub passes_accepted : (c : Call) → asked c ≡ all_yes → Accepted c
passes_accepted c e = ap (λ (a : Answer). a.number) (leaves c e).answer

pub refused_outcome : (c : Call) {q p : ℕ} → asked c ≡ no_at q p
    → outcome_of c ≡ logged (refusal q p) (described c).buffer (described c).log
refused_outcome c {q} {p} e =
    (laws c).settles
    ∙ sym
    (logged_refused (asked c) (due c) (result_of c) (described c).buffer (words (due_entries c)) (described c).log e refl refl refl)

pub call_settles : (c : Call) → Settles (asks (logging c))
call_settles c =
    let D = described c in
    record {
      numbered = (laws c).all_numbered;
      answers = ap (λ (o : Logged). o.answer) (laws c).settles;
      kept = λ e.
          ap (λ (o : Logged). o.buffer ∷ o.log ∷ D.beside_left) (refused_outcome c e)
          ∙ ap (λ (l : List (List ℕ)). D.buffer ∷ D.log ∷ l) ((laws c).kept e);
      given_up = λ e. refl;
    }

-- ---- demand 3

pub logs : (c : Call) → Accepted c → Logs c
logs c a =
    let e = accepted_passes c a in
    let L = leaves c e in
    let count : count_of c ≡ due c = ap (λ (a : Answer). a.count) L.answer in
    let exact : entries (written c) ≡ due_entries c = ap entries L.words_are ∙ entries-words (due_entries c) in
    record {
      count = count;
      counted = ap length exact ∙ due-counted c ∙ sym count;
      exact = exact;
      whole = L.words_are ∙ ap words (sym exact);
      beyond = L.log_is ∙ ap (overlay (described c).log 0) (sym L.words_are);
      replays = ap (replay c) exact ∙ (laws c).runs ∙ sym L.buffer;
      replays_by_rule = ap (replay_by_rule c) exact ∙ (laws c).runs_by_rule ∙ sym L.buffer;
      right = left_right c e;
    }

pub demand3 : (a b : Call) → Accepted a → Accepted b → Demand3 a b
demand3 a b p q =
    let A = leaves a (accepted_passes a p) in
    let B = leaves b (accepted_passes b q) in
    record {
      same_log = λ s. A.words_are ∙ ap words (λ i. entries_due (s.wiring i) (s.kind i) (s.places i)) ∙ sym B.words_are;
      same_count = λ s. (logs a p).count ∙ (λ i. count_due (s.kind i) (s.places i)) ∙ sym (logs b q).count;
      first = logs a p;
      second = logs b q;
    }
