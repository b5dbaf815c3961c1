-- The log: entries written one part behind the other, and those of a network from those of its parts.
-- Assumes nothing.
use mathlib.Core.Path.{◌≡◌, sym, ap, ◌∙◌}
use mathlib.Core.Bool.{Bool, true, false}
use mathlib.Core.List.{List, [], ◌∷◌, ◌++◌, append_assoc}
use Prim.Native.Nat.{ℕ, ◌+◌, ◌-◌, ◌*◌, ◌≤◌, ◌<◌}
use native.Mathlib.Nat.{add-zero}
use native.Mathlib.Numerals.{add-one}
use native.Mathlib.Omega.{arith}
use lib.ListN.{length, length-append}
use borrow.Author.Tests.{lt-ltb, le-ltb}
use Rattle.answers.specs.Buffers.{overlay}
use Rattle.answers.proofs.Buffers.{overlay_none}
use Rattle.counts.specs.Counts.{up, W}
use Rattle.counts.proofs.Rule.{W_more}
use Rattle.network.specs.Wiring.{Wiring}
use Rattle.network.specs.Network.{Network, network, switch_count, down}
use Rattle.network.specs.Log.{Entry, entry, entry_words, words}
use Rattle.network.proofs.Shape.{network_none, network_more, count_is}
use Rattle.entry_log.proofs.Written.{log_then}
use Rattle.steps.specs.State.{State, Subnetwork, output_bit}
use Rattle.steps.specs.Steps.{step4, step5, step6}
use Rattle.steps.specs.Sequence.{rounds, input_entries, entries_of}
use Rattle.steps.specs.Fold.{rounds_of, input_steps, set_net}
use Rattle.control_sweeps.specs.Tables.{Within}
use Rattle.control_rows.specs.Rows.{Gathered}
use Rattle.control_rings.specs.Turns.{Small}
use Rattle.control_walk.specs.declared.Walk.{Walk}
use Rattle.control_walk.specs.Walks.{lying, Went}

pub went_none : (w : Walk) (l : List ℕ) → Went [] 0 w w l l
unfolding words
went_none w l = record { count = sym (add-zero w.e); bit = sym (add-zero w.b); log = sym (overlay_none l (entry_words * w.e)) }

-- one part, and another behind it
pub went_then : {es fs : List Entry} {n p : ℕ} {w r q : Walk} {a b c : List ℕ} → entry_words * (w.e + length es) ≤ length a
    → Went es n w r a b → Went fs p r q b c → Went (es ++ fs) (n + p) w q a c
went_then {es} {fs} {n} {p} {w} {r} {q} {a} {b} {c} room G H =
    record {
      count = rw length-append (omega (arith, G.count, H.count));
      bit = omega (arith, G.bit, H.bit);
      log = log_then es fs w.e r.e a b c (sym G.count) (omega (arith, G.count)) G.log H.log;
    }

-- the same by equal entries and bits
pub went_as : {es fs : List Entry} {n p : ℕ} {w r : Walk} {a b : List ℕ} → es ≡ fs → n ≡ p → Went es n w r a b → Went fs p w r a b
went_as {es} {fs} {n} {p} {w} {r} {a} {b} e f G =
    record { count = rw (← e) G.count; bit = rw (← f) G.bit; log = rw (← e) G.log }

-- the same from a walk that has written and passed as much
pub went_from : {es : List Entry} {n : ℕ} {r : Walk} {a b : List ℕ} (w v : Walk) → v.e ≡ w.e → v.b ≡ w.b → Went es n v r a b → Went
    es n w r a b
went_from {es} {n} {r} {a} {b} w v e f G =
    record {
      count = G.count ∙ ap (λ x. x + length es) e;
      bit = G.bit ∙ ap (λ x. x + n) f;
      log = G.log ∙ ap (λ x. overlay a (entry_words * x) (words es)) e;
    }

-- ---- the rounds

-- the values gathered are as small as those of the table
pub small_gathered : (place : ℕ → ℕ) (m : ℕ) (xs row : List ℕ) → Within place m 32768 xs → Gathered place m xs row → Small m row
unfolding Within Small
small_gathered place m xs row h G i l = rw (G.at i l) (h i l)

pub rounds_more : (i o m b : ℕ) → rounds i o m b ++ (entry 1 o m b ∷ entry 2 o m b ∷ entry 3 o m b ∷ []) ≡ rounds (i + 1) o m b
unfolding rounds
rounds_more i o m b = rw (add-one i)

pub round_more : (w : Wiring) (N : Subnetwork) (i : ℕ) (x : State) → rounds_of w N 1 (rounds_of w N i x) ≡ rounds_of w N (i + 1) x
unfolding rounds_of
round_more w N i x = rw (add-one i)

-- ---- what comes before step 5

pub input_none : (o m b : ℕ) → m < 3 → [] ≡ input_entries o m b
unfolding input_entries
input_none o m b h = rw (le-ltb 2 m (omega arith))

pub input_some : (o m b : ℕ) → 3 ≤ m → rounds (up m) o m b ++ (entry 4 o m b ∷ []) ≡ input_entries o m b
unfolding input_entries
input_some o m b h = rw (lt-ltb 2 m h)

pub steps_none : (w : Wiring) (N : Subnetwork) (x : State) → N.size < 3 → x ≡ input_steps w N x
unfolding input_steps
steps_none w N x h = rw (le-ltb 2 N.size (omega arith))

pub steps_some : (w : Wiring) (N : Subnetwork) (x : State) → 3 ≤ N.size → step4 w N (rounds_of w N (up N.size) x) ≡ input_steps w N x
unfolding input_steps
steps_some w N x h = rw (lt-ltb 2 N.size h)

-- ---- the bits of a network and of its parts

pub W_parts : (m : ℕ) → 2 ≤ m → (up m - 1) + (W (up m) + (W (m - up m) + (m - up m))) ≡ W m
W_parts m two = omega (arith, W_more m two)

-- ---- a network from its parts

module _ (w : Wiring) (place : ℕ → ℕ) (m : ℕ) where
  pub net_none : (bit : ℕ) (x : State) → m < 2 → x ≡ set_net w (network m) place bit x
  unfolding set_net
  net_none bit x h = rw (network_none m h, set_net)

  pub entries_none : (b : ℕ) → m < 2 → [] ≡ entries_of w (network m) place b
  unfolding entries_of
  entries_none b h = rw (network_none m h, entries_of)

  abbrev half : Bool → ℕ → ℕ
  half t = λ i. place (w.enc (up m) (i, t))

  -- b₁, b₂, b₃ are where the bits of a network's parts begin
  pub entries_split : (o b b₁ b₂ : ℕ) → o ≡ place 0 → 2 ≤ m → b₁ ≡ b + (up m - 1) → b₂ ≡ b₁ + W (up m)
      → (input_entries o m b ++ (entry 5 o m b ∷ []))
      ++ (entries_of w (network (up m)) (half false) b₁ ++ (entries_of w (network (down m)) (half true) b₂ ++ (entry 6 o m b ∷ [])))
      ≡ entries_of w (network m) place b
  unfolding entries_of
  entries_split o b b₁ b₂ e two f₁ f₂ =
      let at₂ : b₂ ≡ b + ((up m - 1) + switch_count (network (up m))) = omega (arith, count_is (up m)) in
      append_assoc (input_entries o m b) (entry 5 o m b ∷ []) _ ∙ rw (network_more m two, entries_of, e, at₂, f₁)

  -- a network's state after each of its parts
  pub net_split : (b b₁ b₂ b₃ : ℕ) (x x₁ x₂ x₃ y : State) → 2 ≤ m
      → x₁ ≡ step5 w (lying place m b) (input_steps w (lying place m b) x) → b₁ ≡ b + (up m - 1)
      → x₂ ≡ set_net w (network (up m)) (half false) b₁ x₁ → b₂ ≡ b₁ + W (up m)
      → x₃ ≡ set_net w (network (down m)) (half true) b₂ x₂ → b₃ ≡ b₂ + W (down m)
      → (b₃ ≡ output_bit (lying place m b) → y ≡ step6 w (lying place m b) x₃)
      → y ≡ set_net w (network m) place b x
  unfolding set_net
  net_split b b₁ b₂ b₃ x x₁ x₂ x₃ y two e₁ f₁ e₂ f₂ e₃ f₃ last =
      let c : switch_count (network (up m)) ≡ W (up m) = count_is (up m) in
      let at₂ : b₂ ≡ b + ((up m - 1) + switch_count (network (up m))) = omega arith in
      last (omega (arith, W_parts m two))
      ∙ ap (step6 w (lying place m b)) (e₃ ∙ rw (e₂, e₁, at₂, f₁))
      ∙ sym (ap (λ (n : Network). set_net w n place b x) (network_more m two))
