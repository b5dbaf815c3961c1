-- Running the setter's entries is the fold of its steps; an entry that no call writes leaves the state as it is.
-- Assumes nothing.
use mathlib.Core.Path.{◌≡◌, refl, sym, ap, ◌∙◌, subst}
use mathlib.Core.Logic.{◌⊎◌, inl, inr}
use mathlib.Core.Bool.{Bool, true, false, cond, ◌&&◌, true≢false, false≢true}
use mathlib.Core.List.Memᴰ
use mathlib.Core.List.{List, [], ◌∷◌, ◌++◌}
use Prim.Native.Nat.{ℕ, zero, suc, ◌+◌, ◌-◌, ◌<◌}
use native.Mathlib.Omega.{arith}
use lib.Dec.{eqb, ltb}
use borrow.Author.Tests.{eqb-true, eq-eqb}
use Rattle.counts.specs.Counts.{up}
use Rattle.network.specs.Wiring.{Wiring, Lawful}
use Rattle.network.specs.Network.{Network, network, switch_count}
use Rattle.network.specs.Log.{Entry, entry}
use Rattle.network.proofs.Shape.{Sized, none, some, sized}
use Rattle.steps.specs.State.{State, Subnetwork}
use Rattle.steps.specs.Steps.{step, step4, step5}
use Rattle.steps.specs.Sequence.{rounds, input_entries, entries_of, set_entries}
use Rattle.steps.specs.Run.{subnetworks, OneOf, Single, names, with_bits, run_entry, run_entries, run_set}
use Rattle.steps.specs.Fold.{rounds_of, input_steps, set_net}
use Rattle.steps.proofs.Lookup.{Held, half_at, in_top, only_one}

eqb_itself : (n : ℕ) → eqb n n ≡ true
eqb_itself n = eq-eqb n n refl

pub true_both : (a b : Bool) → (a && b) ≡ true → (a ≡ true) × (b ≡ true)
true_both true b e = (refl, e)
true_both false b e = absurd (false≢true e)

module _ (w : Wiring) (L : Lawful w) where
  -- an entry does its step on the network that it names, wherever that stands in the list
  looked_up_lem : (Ns : List Subnetwork) (N : Subnetwork) (e : Entry) (x : State) → OneOf Ns N → names e N ≡ true
      → ((M : Subnetwork) → OneOf Ns M → names e M ≡ true → M ≡ N) → run_entry w Ns e x ≡ step w (with_bits e N) e.kind x
  unfolding run_entry
  looked_up_lem [] N e x mem h u = absurd (Memᴰ.not-nil mem)
  looked_up_lem (M ∷ Ms) N e x mem h u =
      go (names e M) refl (λ m. looked_up_lem Ms N e x m h (λ K k. u K (Memᴰ.tail k)))
    where
      later : names e M ≡ false → (N ≡ M) ⊎ OneOf Ms N → OneOf Ms N
      later q (inl p) = absurd (true≢false (sym h ∙ ap (names e) p ∙ q))
      later q (inr m) = m

      go : (b : Bool) → names e M ≡ b → (OneOf Ms N → run_entry w Ms e x ≡ step w (with_bits e N) e.kind x)
          → cond (names e M) (step w (with_bits e M) e.kind x) (run_entry w Ms e x) ≡ step w (with_bits e N) e.kind x
      go true q r = rw q (ap (λ (K : Subnetwork). step w (with_bits e K) e.kind x) (u M (Memᴰ.head refl) q))
      go false q r = rw q (r (later q (Memᴰ.cases_cons mem)))

  -- an entry that names none leaves the state as it is
  pub none_named : (Ns : List Subnetwork) (e : Entry) (x : State) → ((N : Subnetwork) → OneOf Ns N → names e N ≡ false)
      → run_entry w Ns e x ≡ x
  unfolding run_entry
  none_named [] e x h = refl
  none_named (M ∷ Ms) e x h = rw (h M (Memᴰ.head refl)) (none_named Ms e x (λ K k. h K (Memᴰ.tail k)))

  -- and so does an entry of no known kind
  idle : (N : Subnetwork) (kind : ℕ) (x : State) → (kind ≡ 0) ⊎ (6 < kind) → step w N kind x ≡ x
  idle N kind x (inl e) = subst (λ q. step w N q x ≡ x) (sym e) refl
  idle N kind x (inr h) =
      let e : kind ≡ suc (suc (suc (suc (suc (suc (suc (kind - 7))))))) = omega arith in
      subst (λ q. step w N q x ≡ x) (sym e) refl

  pub kind_unknown : (Ns : List Subnetwork) (e : Entry) (x : State) → (e.kind ≡ 0) ⊎ (6 < e.kind) → run_entry w Ns e x ≡ x
  unfolding run_entry
  kind_unknown [] e x h = refl
  kind_unknown (M ∷ Ms) e x h = rw (idle (with_bits e M) e.kind x h, kind_unknown Ms e x h) (go (names e M))
    where
      go : (b : Bool) → cond b x x ≡ x
      go true = refl
      go false = refl

  -- entries, and more behind them, each by its own words: so a log goes on from the middle
  pub run-append : (Ns : List Subnetwork) (es fs : List Entry) (x : State)
      → run_entries w Ns (es ++ fs) x ≡ run_entries w Ns fs (run_entries w Ns es x)
  unfolding run_entries
  run-append Ns [] fs x = refl
  run-append Ns (e ∷ es) fs x = run-append Ns es fs (run_entry w Ns e x)

  module _ (Ns : List Subnetwork) (S : Single Ns) where
    -- an entry does its step on the network whose start, size and first bit it has
    does : (kind : ℕ) (N : Subnetwork) (x : State) → OneOf Ns N
        → run_entry w Ns (entry kind (N.place 0) N.size N.bit) x ≡ step w N kind x
    unfolding Single
    does kind N x mem = looked_up_lem Ns N (entry kind (N.place 0) N.size N.bit) x mem itself unique
      where
        itself : names (entry kind (N.place 0) N.size N.bit) N ≡ true
        itself = simp eqb_itself

        unique : (M : Subnetwork) → OneOf Ns M → names (entry kind (N.place 0) N.size N.bit) M ≡ true → M ≡ N
        unique M m e =
            let h = true_both (eqb (M.place 0) (N.place 0)) (eqb M.size N.size) e in
            S M N m mem (eqb-true (M.place 0) (N.place 0) h.0) (eqb-true M.size N.size h.1)

    run-rounds : (N : Subnetwork) → OneOf Ns N → (i : ℕ) (x : State)
        → run_entries w Ns (rounds i (N.place 0) N.size N.bit) x ≡ rounds_of w N i x
    unfolding rounds rounds_of run_entries
    run-rounds N mem zero x = refl
    run-rounds N mem (suc i) x =
        run-append Ns (rounds i (N.place 0) N.size N.bit) _ x
        ∙ rw (run-rounds N mem i x, does 1 N _ mem, does 2 N _ mem, does 3 N _ mem)

    run-input : (N : Subnetwork) → OneOf Ns N → (x : State)
        → run_entries w Ns (input_entries (N.place 0) N.size N.bit) x ≡ input_steps w N x
    unfolding input_entries input_steps run_entries
    run-input N mem x = go (ltb 2 N.size)
      where
        all : List Entry
        all = rounds (up N.size) (N.place 0) N.size N.bit ++ (entry 4 (N.place 0) N.size N.bit ∷ [])

        go : (b : Bool) → run_entries w Ns (cond b all []) x ≡ cond b (step4 w N (rounds_of w N (up N.size) x)) x
        go true =
            run-append Ns (rounds (up N.size) (N.place 0) N.size N.bit) _ x
            ∙ rw (run-rounds N mem (up N.size) x, does 4 N _ mem)
        go false = refl

    run-net : {m : ℕ} {net : Network} (place : ℕ → ℕ) (bit : ℕ) → Sized m net → Held (subnetworks w net place bit) Ns
        → (x : State)
        → run_entries w Ns (entries_of w net place bit) x ≡ set_net w net place bit x
    unfolding entries_of set_net run_entries subnetworks Held
    run-net place bit (none h) H x = refl
    run-net {m} place bit (some {top = top} {bottom = bottom} two t b) H x =
        run-append Ns (input_entries (place 0) m bit) (entry 5 (place 0) m bit ∷ rest) x
        ∙ ap (run_entries w Ns (entry 5 (place 0) m bit ∷ rest)) (run-input N here x)
        ∙ ap (run_entries w Ns rest) (does 5 N (input_steps w N x) here)
        ∙ run-append Ns (entries_of w top (half_at w L m place false) (bit + (up m - 1))) rest' entered
        ∙ ap (run_entries w Ns rest')
        (run-net _ (bit + (up m - 1)) t (λ K k. H K (Memᴰ.tail (Memᴰ.append_left _ k))) entered)
        ∙ run-append Ns (entries_of w bottom (half_at w L m place true) (bit + ((up m - 1) + switch_count top)))
        (entry 6 (place 0) m bit ∷ []) from_top
        ∙ ap (run_entries w Ns (entry 6 (place 0) m bit ∷ []))
        (run-net _ (bit + ((up m - 1) + switch_count top)) b
        (λ K k. H K (Memᴰ.tail (Memᴰ.append_right (in_top w L m top place bit) k))) from_top)
        ∙ does 6 N _ here
      where
        N : Subnetwork
        N = record { place = place; size = m; bit = bit }

        here : OneOf Ns N
        here = H N (Memᴰ.head refl)

        rest' : List Entry
        rest' = entries_of w bottom (half_at w L m place true) (bit + ((up m - 1) + switch_count top)) ++ (entry 6 (place 0) m bit ∷ [])

        rest : List Entry
        rest = entries_of w top (half_at w L m place false) (bit + (up m - 1)) ++ rest'

        entered : State
        entered = step5 w N (input_steps w N x)

        from_top : State
        from_top = set_net w top (half_at w L m place false) (bit + (up m - 1)) entered

  -- the lookup finds each network within the whole: an entry with its start, size and first bit does its step there
  pub finds : (n kind : ℕ) (N : Subnetwork) (x : State) → OneOf (subnetworks w (network n) (λ i. i) 0) N
      → run_set w n (entry kind (N.place 0) N.size N.bit ∷ []) x ≡ step w N kind x
  unfolding run_set run_entries
  finds n kind N x mem = does (subnetworks w (network n) (λ i. i) 0) (only_one w L n) kind N x mem

  -- running the setter's entries is the fold of its steps
  pub run_is_fold : (n : ℕ) (x : State) → run_set w n (set_entries w n) x ≡ set_net w (network n) (λ i. i) 0 x
  unfolding run_set set_entries Held
  run_is_fold n x = run-net (subnetworks w (network n) (λ i. i) 0) (only_one w L n) (λ i. i) 0 (sized n) (λ N m. m) x

  -- an entry that no call writes leaves the state as it is: its kind is unknown, or no network has its start and size
  pub run-nothing : (n : ℕ) (e : Entry) (x : State)
      → ((e.kind ≡ 0) ⊎ (6 < e.kind))
      ⊎ ((N : Subnetwork) → OneOf (subnetworks w (network n) (λ i. i) 0) N → names e N ≡ false)
      → run_set w n (e ∷ []) x ≡ x
  unfolding run_set run_entries
  run-nothing n e x (inl h) = kind_unknown (subnetworks w (network n) (λ i. i) 0) e x h
  run-nothing n e x (inr h) = none_named (subnetworks w (network n) (λ i. i) 0) e x h
