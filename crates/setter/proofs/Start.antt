-- The table as it starts: the order copied, the bits cleared, trails empty, no pair marked.
-- Assumes nothing.
use mathlib.Core.Path.{◌≡◌, refl, sym, ap, ◌∙◌, fun_ext}
use mathlib.Core.List.{List, ◌∷◌}
use Prim.Native.Nat.{ℕ, zero, suc, ◌+◌, ◌*◌, ◌≤◌, ◌<◌}
use native.Mathlib.Omega.{arith}
use lib.ListN.{length, get_or, take, replicate, length-replicate}
use Rattle.answers.specs.Buffers.{overlay}
use Rattle.counts.specs.Counts.{up, W, E}
use Rattle.permutation.specs.Permutations.{IsPermutation}
use Rattle.network.specs.Network.{network}
use Rattle.network.specs.Log.{entry_words, words}
use Rattle.network.proofs.Shape.{sized}
use Rattle.steps.specs.State.{State, start}
use Rattle.steps.specs.Sequence.{entries_of, set_entries}
use Rattle.steps.specs.Fold.{set_net}
use Rattle.steps.proofs.Running.{run_is_fold}
use Rattle.steps.proofs.Lengths.{length-entries}
use Rattle.steps_canonical.specs.Table.{Ordered}
use Rattle.wirings.specs.declared.Topology.{Topology}
use Rattle.wirings.specs.Nets.{wiring_of, whole_of, place_of}
use Rattle.wirings.proofs.Halves.{lawful}
use Rattle.control_sweeps.specs.Tables.{Below, Covers}
use Rattle.control_pairs.proofs.Held.{zero-at}
use Rattle.control_walk.specs.declared.Walk.{Walk}
use Rattle.control_walk.specs.Walks.{subnetwork_of, Went}
use Rattle.control_network.specs.Inner.{Room, Tidy, Lengthens, unmarked}
use Rattle.setter.specs.Inner.{SetsIn}

pub took : (n k : ℕ) → k ≤ n → take k (replicate {A = ℕ} n 0) ≡ replicate {A = ℕ} k 0
took n zero h = refl
took zero (suc k) h = absurd (omega arith)
took (suc n) (suc k) h = ap (λ (l : List ℕ). 0 ∷ l) (took n k (omega arith))

pub zeros-below : (b n : ℕ) → 0 < b → Below b (replicate {A = ℕ} n 0)
unfolding Below
zeros-below b n h i = rw (zero-at n i) h

-- where place i of the network of all n places lies
at : (t : Topology) (n : ℕ) → ◌≡◌ {A = ℕ → ℕ} (place_of (whole_of t n)) (λ i. i)
at t n = fun_ext (λ i. omega arith)

pub zeros_lengthen : (t : Topology) (n : ℕ) → n ≤ 1024 → Lengthens (place_of (whole_of t n)) n (replicate {A = ℕ} n 0)
unfolding Lengthens
zeros_lengthen t n h i l = rw (zero-at n (0 + i * 1)) (omega arith)

abbrev pub still : Walk
still = record { f = 0; c = 0; g = 0; s = 0; any = 0; e = 0; b = 0 }

-- as a default walk is
pub begins : (w : Walk) → w.f ≡ 0 × (w.c ≡ 0 × (w.g ≡ 0 × (w.s ≡ 0 × (w.any ≡ 0 × (w.e ≡ 0 × w.b ≡ 0))))) → w ≡ still
begins w (f, (c, (g, (s, (any, (e, b)))))) = λ i. record { f = f i; c = c i; g = g i; s = s i; any = any i; e = e i; b = b i }

pub tidy_start : (order : List ℕ) → Tidy (start order)
tidy_start order =
    record {
      bits_below = zeros-below 2 (W (length order)) (omega arith);
      f_below = omega arith;
      c_below = omega arith;
      g_below = omega arith;
      s_below = omega arith;
    }

pub ordered_start : (t : Topology) (order vs ts bs : List ℕ) → length order ≤ 1024 → IsPermutation (length order) order → vs ≡ order
    → length ts ≡ length order → length bs ≡ W (length order)
    → Ordered (subnetwork_of (whole_of t (length order)) 0) (unmarked 512 vs ts bs still)
ordered_start t order vs ts bs h P e lt lb =
    let lv : length vs ≡ length order = ap length e in
    record {
      order = order;
      permutation = P;
      holding =
          record {
            values_room = λ i l. omega (arith, lv);
            trails_room = λ i l. omega (arith, lt);
            marks_room = omega (arith, length-replicate {A = ℕ} 512 0);
            bits_room = omega (arith, lb);
            unmarked = λ i. zero-at 512 i;
            order = λ i l. ap (λ (place : ℕ → ℕ). get_or vs (place i) 0) (at t (length order)) ∙ ap (λ (l : List ℕ). get_or l i 0) e;
          };
    }

-- the tables that the code prepares are the start
pub start_is : (order vs ts bs : List ℕ) → vs ≡ order → ts ≡ replicate (length order) 0 → bs ≡ replicate (W (length order)) 0
    → unmarked (up (length order)) vs ts bs still ≡ start order
start_is order vs ts bs e₁ e₂ e₃ = rw (e₁, e₂, e₃)

-- the setter from the start: what the recursion left is what running the entries leaves
pub sets_whole : (t : Topology) (order vs ts bs log bits' log' : List ℕ) (vs' ts' : List ℕ) (r : Walk)
    → vs ≡ order → ts ≡ replicate {A = ℕ} (length order) 0
    → bs ≡ replicate {A = ℕ} (W (length order)) 0
    → Went (entries_of (wiring_of t) (network (length order)) (place_of (whole_of t (length order))) 0) (W (length order)) still r log log'
    → ((j : ℕ) → up (length order) ≤ j
    → unmarked j vs' ts' bits' r ≡ set_net (wiring_of t) (network (length order)) (place_of (whole_of t (length order))) 0
    (unmarked j vs ts bs still))
    → SetsIn (wiring_of t) order log r.e bits' log'
unfolding set_entries
sets_whole t order vs ts bs log bits' log' vs' ts' r e₁ e₂ e₄ G S =
    let n : ℕ = length order in
    let q = at t n in
    let before : State = unmarked (up n) vs ts bs still in
    let s : before ≡ start order = start_is order vs ts bs e₁ e₂ e₄ in
    record {
      count = omega (arith, G.count, length-entries (wiring_of t) (sized n) (place_of (whole_of t n)) 0);
      bits_are =
          ap (λ (x : State). x.bits) (S (up n) (omega arith) ∙ ap (λ (p : ℕ → ℕ). set_net (wiring_of t) (network n) p 0 before) q)
          ∙ ap (λ (x : State). (set_net (wiring_of t) (network n) (λ i. i) 0 x).bits) s
          ∙ ap (λ (x : State). x.bits) (sym (run_is_fold (wiring_of t) (lawful t) n (start order)));
      log_is = G.log ∙ ap (λ (p : ℕ → ℕ). overlay log 0 (words (entries_of (wiring_of t) (network n) p 0))) q;
    }

-- and the room that it starts with
pub room_start : (t : Topology) (order vs ts bs log : List ℕ) → length order ≤ 1024 → length vs ≡ length order
    → ts ≡ replicate {A = ℕ} (length order) 0
    → length bs ≡ W (length order) → length bs ≤ 9217 → entry_words * E (length order) ≤ length log
    → Room (whole_of t (length order)) still vs ts bs log
room_start t order vs ts bs log h lv et lb few ll =
    let n : ℕ = length order in
    let lt : length ts ≡ n = ap length et ∙ length-replicate {A = ℕ} n 0 in
    record {
      values_room = covers vs lv;
      trails_room = covers ts lt;
      bits_room = omega arith;
      few = omega arith;
      log_room = omega arith;
    }
  where
    covers : (xs : List ℕ) → length xs ≡ length order → Covers (whole_of t (length order)) xs
    covers xs e = record { inside = record { apart = omega arith; lies = λ i l. omega arith }; short = omega arith }
