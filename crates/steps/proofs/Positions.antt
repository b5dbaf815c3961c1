-- The fourth words of the setter's log (02, F-7): each entry is of a network within the whole, and has that network's first bit. So
-- 01's rule of running, with the bits of the network that is looked up (specs/ByLookup), comes to the same as the fourth words.
-- Assumes nothing.
use mathlib.Core.Path.{◌≡◌, refl, sym, ap, ◌∙◌}
use mathlib.Core.Bool.{Bool, true, false, cond}
use mathlib.Core.List.Memᴰ
use mathlib.Core.List.{List, [], ◌∷◌, ◌++◌, map}
use Prim.Native.Nat.{ℕ, zero, suc, ◌+◌, ◌-◌, ◌<◌}
use native.Mathlib.Omega.{arith}
use lib.Dec.{eqb, ltb}
use lib.ListN.{length, get_or}
use borrow.Author.Tests.{eqb-true}
use Rattle.counts.specs.Counts.{up}
use Rattle.network.specs.Wiring.{Wiring, Lawful}
use Rattle.network.specs.Network.{Network, wires, split, network, switch_count}
use Rattle.network.specs.Log.{Entry, entry, none_such}
use Rattle.steps.specs.State.{State, Subnetwork}
use Rattle.steps.specs.Steps.{step}
use Rattle.steps.specs.Sequence.{rounds, input_entries, entries_of, set_entries}
use Rattle.steps.specs.Run.{subnetworks, OneOf, Single, names, Of, with_bits, run_entry, run_entries, run_set}
use Rattle.steps.specs.ByLookup.{run_looked, run_all_looked, run_by_lookup}
use Rattle.steps.proofs.Lookup.{Held, half_at, in_top, only_one}
use Rattle.steps.proofs.Running.{true_both}

-- ---- positions

-- each of some entries is of one of the networks
data Each (Ns : List Subnetwork) : List Entry → Type 0 where
  empty : Each Ns []
  also : {e : Entry} {es : List Entry} → Of Ns e → Each Ns es → Each Ns (e ∷ es)

each_append : {Ns : List Subnetwork} {es fs : List Entry} → Each Ns es → Each Ns fs → Each Ns (es ++ fs)
each_append empty b = b
each_append (also p a) b = also p (each_append a b)

each_at : {Ns : List Subnetwork} {es : List Entry} → Each Ns es → (e : ℕ) → e < length es → Of Ns (get_or es e none_such)
each_at empty e h = absurd (omega arith)
each_at (also p a) zero h = p
each_at (also p a) (suc e) h = each_at a e (omega arith)

module _ (w : Wiring) (L : Lawful w) where
  module _ (Ns : List Subnetwork) where
    -- an entry of the network N, whatever its step
    its : (N : Subnetwork) → OneOf Ns N → (kind : ℕ) → Of Ns (entry kind (N.place 0) N.size N.bit)
    its N mem kind = record { network = N; one = mem; starts = refl; many = refl; begins = refl }

    each-rounds : (N : Subnetwork) → OneOf Ns N → (i : ℕ) → Each Ns (rounds i (N.place 0) N.size N.bit)
    unfolding rounds
    each-rounds N mem zero = empty
    each-rounds N mem (suc i) =
        each_append (each-rounds N mem i) (also (its N mem 1) (also (its N mem 2) (also (its N mem 3) empty)))

    each-input : (N : Subnetwork) → OneOf Ns N → Each Ns (input_entries (N.place 0) N.size N.bit)
    unfolding input_entries
    each-input N mem = go (ltb 2 N.size)
      where
        all : List Entry
        all = rounds (up N.size) (N.place 0) N.size N.bit ++ (entry 4 (N.place 0) N.size N.bit ∷ [])

        go : (b : Bool) → Each Ns (cond b all [])
        go true = each_append (each-rounds N mem (up N.size)) (also (its N mem 4) empty)
        go false = empty

    each-net : (net : Network) (place : ℕ → ℕ) (bit : ℕ) → Held (subnetworks w net place bit) Ns → Each Ns (entries_of w net place bit)
    unfolding entries_of subnetworks Held
    each-net wires place bit H = empty
    each-net (split m top bottom) place bit H =
        each_append (each-input N here)
        (also (its N here 5)
        (each_append
        (each-net top (half_at w L m place false) (bit + (up m - 1)) (λ K k. H K (Memᴰ.tail (Memᴰ.append_left _ k))))
        (each_append
        (each-net bottom (half_at w L m place true) (bit + ((up m - 1) + switch_count top))
        (λ K k. H K (Memᴰ.tail (Memᴰ.append_right (in_top w L m top place bit) k))))
        (also (its N here 6) empty))))
      where
        N : Subnetwork
        N = record { place = place; size = m; bit = bit }

        here : OneOf Ns N
        here = H N (Memᴰ.head refl)

  each_set : (n : ℕ) → Each (subnetworks w (network n) (λ i. i) 0) (set_entries w n)
  unfolding set_entries Held
  each_set n = each-net (subnetworks w (network n) (λ i. i) 0) (network n) (λ i. i) 0 (λ N m. m)

  -- entry e of setting an order of n places is of a network within n, whose first bit is its fourth word
  pub set_position : (n e : ℕ) → e < length (set_entries w n)
      → Of (subnetworks w (network n) (λ i. i) 0) (get_or (set_entries w n) e none_such)
  set_position n e h = each_at (each_set n) e h

  -- ---- 01's rule

  -- it reads no fourth word: others in their place change nothing
  same_looked : (Ns : List Subnetwork) (e : Entry) (b : ℕ) (x : State)
      → run_looked w Ns (entry e.kind e.first e.second b) x ≡ run_looked w Ns e x
  unfolding run_looked
  same_looked [] e b x = refl
  same_looked (N ∷ Ns) e b x = ap (cond (names e N) (step w N e.kind x)) (same_looked Ns e b x)

  pub fourth_unread : (Ns : List Subnetwork) (other : Entry → ℕ) (es : List Entry) (x : State)
      → run_all_looked w Ns (map (λ (e : Entry). entry e.kind e.first e.second (other e)) es) x ≡ run_all_looked w Ns es x
  unfolding run_all_looked
  fourth_unread Ns other [] x = refl
  fourth_unread Ns other (e ∷ es) x =
      fourth_unread Ns other es (run_looked w Ns (entry e.kind e.first e.second (other e)) x)
      ∙ ap (run_all_looked w Ns es) (same_looked Ns e (other e) x)

  looked : (Ns : List Subnetwork) (e : Entry) (x : State) → ((M : Subnetwork) → OneOf Ns M → names e M ≡ true → e.bit ≡ M.bit)
      → run_entry w Ns e x ≡ run_looked w Ns e x
  unfolding run_entry run_looked
  looked [] e x h = refl
  looked (M ∷ Ms) e x h = go (names e M) refl (looked Ms e x (λ K k. h K (Memᴰ.tail k)))
    where
      go : (b : Bool) → names e M ≡ b → run_entry w Ms e x ≡ run_looked w Ms e x
          → cond (names e M) (step w (with_bits e M) e.kind x) (run_entry w Ms e x)
          ≡ cond (names e M) (step w M e.kind x) (run_looked w Ms e x)
      go true q r =
          rw q
          (ap (λ b. step w (record { place = M.place; size = M.size; bit = b }) e.kind x) (h M (Memᴰ.head refl) q))
      go false q r = rw q r

  all_looked : (Ns : List Subnetwork) → Single Ns → {es : List Entry} → Each Ns es → (x : State)
      → run_entries w Ns es x ≡ run_all_looked w Ns es x
  unfolding run_entries run_all_looked Single
  all_looked Ns S empty x = refl
  all_looked Ns S (also {e = e} {es = es} p a) x =
      rw (looked Ns e x same) (all_looked Ns S a (run_looked w Ns e x))
    where
      same : (M : Subnetwork) → OneOf Ns M → names e M ≡ true → e.bit ≡ M.bit
      same M m q =
          let h = true_both (eqb (M.place 0) e.first) (eqb M.size e.second) q in
          let it : M ≡ p.network = S M p.network m p.one
          (eqb-true (M.place 0) e.first h.0 ∙ p.starts) (eqb-true M.size e.second h.1 ∙ p.many) in
          p.begins ∙ ap (λ (K : Subnetwork). K.bit) (sym it)

  -- the fourth words of the setter's entries tell nothing that the lookup does not know
  pub set_by_lookup : (n : ℕ) (x : State) → run_set w n (set_entries w n) x ≡ run_by_lookup w n (set_entries w n) x
  unfolding run_set run_by_lookup
  set_by_lookup n x = all_looked (subnetworks w (network n) (λ i. i) 0) (only_one w L n) (each_set n) x
