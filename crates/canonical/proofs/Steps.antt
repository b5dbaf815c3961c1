-- For whoever settles a network step by step (01, steps 1 to 6). Steps 1, 2, 3: show that each round meets `Round` and use
-- Rounds.antt; then `done-settled` (Setting.antt) has the rest of what one network asks, but for the output bits. Steps 4, 5 and
-- 6: what enters the halves, and the output bits, in the words of those steps.
-- Assumes nothing.
use mathlib.Core.Path.{◌≡◌, sym, ap, ◌∙◌}
use mathlib.Core.Logic.{◌⊎◌, inl, inr}
use mathlib.Core.Bool.{Bool, true, false, not, cond}
use mathlib.Core.List.{List}
use Prim.Native.Nat.{ℕ, ◌-◌, ◌<◌}
use lib.ListN.{length, get_or}
use Rattle.counts.specs.Counts.{up}
use Rattle.network.specs.Wiring.{Wiring, Lawful, Side}
use Rattle.network.specs.Network.{down}
use Rattle.permutation.specs.Permutations.{IsPermutation}
use Rattle.canonical.specs.Rule.{held, half, Apart, Finished}
use Rattle.canonical.proofs.Sides.{true_or_false, other}
use Rattle.canonical.proofs.Rings.{Proper}
use Rattle.canonical.proofs.Held.{mate, mate-below, mate_holds}
use Rattle.canonical.proofs.Halves.{feeder, feeder_of, fits, proper}

module _
    {w : Wiring} (L : Lawful w) (m : ℕ) (some : 0 < m) (o : List ℕ) (O : IsPermutation m o)
    (input : List ℕ) (count : length input ≡ up m - 1) (A : Apart w (up m) o input)
  where
    abbrev k : ℕ
    k = up m

    -- the value that enters half t at place i
    abbrev pub entering : Bool → ℕ → Side
    entering t i = held w (up m) o (feeder input t i)

    -- step 6: the output bit of a pair is the side of that of its values which comes out of the top
    pub sides_finish :
        (output : List ℕ)
        → ((i : ℕ) → i < up m → (entering false i).0 < down m → get_or output (entering false i).0 0 ≡ cond (entering false i).1 1 0)
        → Finished w m o input output
    unfolding Finished Proper half
    sides_finish output F j l p h e = go (true_or_false (half input p))
      where
        -- the value (j, s) is at p, and enters the top
        on_top_lem : (p : Side) (s : Bool) → p.0 < k → held w k o p ≡ (j, s) → half input p ≡ false → get_or output j 0 ≡ cond s 1 0
        on_top_lem p s below q t =
            let r : entering false p.0 ≡ (j, s) =
            ap (held w k o) (ap (λ u. feeder input u p.0) (sym t) ∙ feeder_of input p) ∙ q in
            let r0 : (entering false p.0).0 ≡ j = ap (λ (v : Side). v.0) r in
            ap (λ n. get_or output n 0) (sym r0)
            ∙ F p.0 below (rw r0 l)
            ∙ ap (λ (v : Side). cond v.1 1 0) r

        go : (half input p ≡ true) ⊎ (half input p ≡ false) → get_or output j 0 ≡ cond (half input p) 0 1
        go (inr t) = on_top_lem p true h e t ∙ sym (ap (λ u. cond u 0 1) t)
        go (inl t) =
            let f = fits L m some o O in
            on_top_lem (mate w k o p) false (mate-below L k m f o O p h) (mate_holds L k m f o O p h ∙ ap other e)
            (proper L m some o O input count A p h ∙ ap not t)
            ∙ sym (ap (λ u. cond u 0 1) t)
