-- An accepted call for the r-th order does what set does on that order; and every order is treated.
-- Assumes nothing.
use mathlib.Core.Path.{◌≡◌, refl, sym, ap, ◌∙◌}
use mathlib.Core.List.{List, [], ◌∷◌}
use Prim.Native.Nat.{ℕ, ◌*◌, ◌≤◌}
use native.Mathlib.Omega.{arith}
use lib.ListN.{length, take}
use Rattle.answers.specs.Questions.{all_yes}
use Rattle.answers.specs.Buffers.{overlay}
use Rattle.answers.specs.Outcomes.{Logged}
use Rattle.counts.specs.Counts.{W, E}
use Rattle.network.specs.Wiring.{paper}
use Rattle.network.specs.Network.{network}
use Rattle.network.specs.Log.{entry_words}
use Rattle.canonical.specs.Rule.{Canonical}
use Rattle.wirings.specs.declared.Topology.TheVariants.{Paper}
use Rattle.wirings.specs.Nets.{wiring_of}
use Rattle.permutation.specs.Permutations.{IsPermutation}
use Rattle.orders_listed.specs.Ranks.{order_at, ListedOnce}
use Rattle.orders_listed.proofs.OrderAt.{length_order_at, order_permutation}
use Rattle.orders_listed.proofs.Listed.{listed_once}
use Rattle.listed_order.specs.Calls.{ranked_call}
use Rattle.listed_order.proofs.Asked.{rank_asked, rank_passes}
use Rattle.claims.specs.Calls.{Call, set, rank, described, outcome_of, Accepted, count_of, written}
use Rattle.claims.specs.Demands.{Alike}
use Rattle.claims.specs.Ranks.{AsSet, RoomToRank, Treated}
use Rattle.claims.proofs.Asked.{set_passes}
use Rattle.claims.proofs.Demands.{asked, accepted_passes, passes_accepted, leaves, left_right, demand3}

module _ (n r : ℕ) (list bits log : List ℕ) (a : Accepted (rank n r list bits log)) where
  abbrev ranks : Call
  ranks = rank n r list bits log

  abbrev sets : List ℕ → List ℕ → Call
  sets b l = set Paper (order_at n r) b l

  long : length (order_at n r) ≡ n
  long = length_order_at n r

  yes : asked ranks ≡ all_yes
  yes = accepted_passes ranks a

  set_yes : asked (sets bits log) ≡ all_yes
  set_yes =
      let A = rank_asked n r list bits log yes in
      set_passes (order_at n r) bits log
      (record {
        small = omega (arith, long, A.small);
        bit_count = A.bit_count ∙ ap W (sym long);
        log_room = omega (arith, A.log_room, ap E long);
        permutation = rw long (order_permutation n r A.rank_below);
      })

  set_accepted : Accepted (sets bits log)
  set_accepted = passes_accepted (sets bits log) set_yes

  listed : (described ranks).beside_left ≡ overlay list 0 (order_at n r) ∷ []
  unfolding ranked_call
  listed = rw yes

  same_outcome : outcome_of ranks ≡ outcome_of (sets bits log)
  unfolding ranked_call wiring_of
  same_outcome = rw (yes, set_yes, long)

  -- then by the log rule for set
  module _ (bits' log' : List ℕ) (b : Accepted (sets bits' log')) where
    alike : Alike (sets bits log) (sets bits' log')
    alike = record { wiring = refl; kind = refl; places = refl }

    same_log : written ranks ≡ written (sets bits' log')
    same_log =
        ap (λ (o : Logged). take (entry_words * o.answer.count) o.log) same_outcome
        ∙ (demand3 (sets bits log) (sets bits' log') set_accepted b).same_log alike

    same_count : count_of ranks ≡ count_of (sets bits' log')
    same_count =
        ap (λ (o : Logged). o.answer.count) same_outcome
        ∙ (demand3 (sets bits log) (sets bits' log') set_accepted b).same_count alike

    same_bits : (outcome_of ranks).buffer ≡ (outcome_of (sets bits' log')).buffer
    same_bits =
        ap (λ (o : Logged). o.buffer) same_outcome
        ∙ (leaves (sets bits log) set_yes).buffer
        ∙ sym (leaves (sets bits' log') (accepted_passes (sets bits' log') b)).buffer

  pub as_set : AsSet n r list bits log
  as_set =
      record {
        listed = listed;
        set_accepted = set_accepted;
        same_outcome = same_outcome;
        same_log = same_log;
        same_count = same_count;
        same_bits = same_bits;
      }

-- ---- every order

module _ (n : ℕ) (order : List ℕ) (small : n ≤ 6) (O : IsPermutation n order) where
  once : ListedOnce n order
  once = listed_once n order O

  module _ (list bits log : List ℕ) (R : RoomToRank n list bits log) where
    abbrev call : Call
    call = rank n once.rank list bits log

    call_yes : asked call ≡ all_yes
    call_yes =
        rank_passes n once.rank list bits log
        (record {
          small = small;
          rank_below = once.rank_below;
          room = R.list_room;
          bit_count = R.bit_count;
          log_room = R.log_room;
        })

    order_left : (described call).beside_left ≡ overlay list 0 order ∷ []
    order_left =
        (as_set n once.rank list bits log (passes_accepted call call_yes)).listed
        ∙ ap (λ (l : List ℕ). overlay list 0 l ∷ []) once.listed

    setting_left : Canonical paper (network n) order (outcome_of call).buffer
    setting_left = rw once.listed at (left_right call call_yes)

  pub treated : Treated n order
  treated =
      record {
        once = once;
        call_accepted = λ list bits log R. (leaves (call list bits log R) (call_yes list bits log R)).answer;
        order_left = order_left;
        setting_left = setting_left;
      }
