-- There is a canonical setting of every permutation: the one that the walk finds in each network.
-- Assumes nothing.
use mathlib.Core.Path.{◌≡◌, refl, sym, ap, ◌∙◌}
use mathlib.Core.Bool.{true, false, cond}
use mathlib.Core.List.{List, [], ◌++◌}
use Prim.Native.Nat.{ℕ, ◌-◌, ◌≤◌, ◌<◌}
use native.Mathlib.Omega.{arith}
use lib.ListN.{length}
use Rattle.bits.specs.Bits.{Bits}
use Rattle.counts.specs.Counts.{up}
use Rattle.network.specs.Wiring.{Wiring, Lawful}
use Rattle.network.specs.Network.{Network, wires, split, network, down}
use Rattle.network.proofs.Shape.{Sized, none, some, sized}
use Rattle.permutation.specs.Permutations.{IsPermutation, tabulate}
use Rattle.permutation.proofs.Tables.{length-tabulate, tabulate-at}
use Rattle.canonical.specs.Rule.{half, Apart, LowestStraight, Finished, order_of_half, Settled, Canonical}
use Rattle.canonical.proofs.Sides.{bit_at}
use Rattle.canonical.proofs.Rings.{proper_same, ruled_same}
use Rattle.canonical.proofs.Round.{Stage, Done}
use Rattle.canonical.proofs.Rounds.{done_proper, done_ruled}
use Rattle.canonical.proofs.Walk.{walk, stage, walk_lengths, walk-done}
use Rattle.canonical.proofs.Held.{seat, seat-below, seat_holds, held_unlike, mate, matching, proper_apart, ruled_lowest}
use Rattle.canonical.proofs.Halves.{fits, top_permutation, bottom_permutation}

-- output bit j is 1 where the item of value (j, true) enters the top
unfoldable pub outputs : Wiring → ℕ → List ℕ → List ℕ → List ℕ
outputs w m o input = tabulate (λ j. cond (half input (seat w (up m) o (j, true))) 0 1) (down m)

unfoldable pub setting : Wiring → Network → List ℕ → List ℕ
setting w wires o = []
setting w (split m top bottom) o =
    let k = up m in
    let input = (walk k k (mate w k o)).bits in
    input
    ++ (setting w top (order_of_half w k o input false k)
    ++ (setting w bottom (order_of_half w k o input true (down m)) ++ outputs w m o input))

module _ {w : Wiring} (L : Lawful w) (m : ℕ) (two : 2 ≤ m) (o : List ℕ) (O : IsPermutation m o) where
  -- what k rounds of any walk leave settles the input bits of a network
  module _
      (x : Stage) (D : Done (up m) (mate w (up m) o) x) (input : List ℕ)
      (count : length input ≡ up m - 1) (B : Bits input) (same : (i : ℕ) → i < up m → x.bit i ≡ bit_at input i)
    where
      abbrev k : ℕ
      k = up m

      pub done-apart : Apart w (up m) o input
      done-apart =
          let f = fits L m (omega arith) o O in
          proper_apart L k m f o O input
          (proper_same k (mate w k o) x.bit (bit_at input) same (matching L k m f o O) (done_proper k (mate w k o) x D))

      pub done-lowest : LowestStraight w (up m) o input
      done-lowest =
          ruled_lowest L k m (fits L m (omega arith) o O) o O input (omega arith) B
          (ruled_same k (mate w k o) x.bit (bit_at input) same (done_ruled k (mate w k o) x D))

      -- and with the output bits all of it
      pub done-settled : (output : List ℕ) → length output ≡ down m → Finished w m o input output → Settled w m o input output
      done-settled output n F =
          record {
            input_count = count;
            output_count = n;
            input_are_bits = B;
            apart = done-apart;
            lowest_straight = done-lowest;
            finished = F;
          }

  pub outputs_finish : (input : List ℕ) → Finished w m o input (outputs w m o input)
  unfolding Finished outputs
  outputs_finish input j l p h e =
      let k = up m in
      let f = fits L m (omega arith) o O in
      let there : seat w k o (j, true) ≡ p =
      held_unlike L k m f o O (seat w k o (j, true)) p (seat-below L k m f o O (j, true) (omega arith)) h
      (seat_holds L k m f o O (j, true) (omega arith) ∙ sym e) in
      tabulate-at (λ j. cond (half input (seat w k o (j, true))) 0 1) (down m) j l
      ∙ ap (λ q. cond (half input q) 0 1) there

  pub walk_settles :
      Settled w m o (walk (up m) (up m) (mate w (up m) o)).bits (outputs w m o (walk (up m) (up m) (mate w (up m) o)).bits)
  unfolding outputs
  walk_settles =
      let k = up m in
      let x = walk k k (mate w k o) in
      let Z = walk_lengths k k (mate w k o) (omega arith) in
      let M = matching L k m (fits L m (omega arith) o O) o O in
      let e = Z.of_bits in
      done-settled (stage x) (walk-done k (mate w k o) (omega arith) M) x.bits (omega arith) Z.are_bits (λ i _. refl)
      (outputs w m o x.bits)
      (length-tabulate (λ j. cond (half x.bits (seat w k o (j, true))) 0 1) (down m))
      (outputs_finish x.bits)

pub canonical_exists_of : {w : Wiring} → Lawful w → {m : ℕ} {net : Network} → Sized m net
    → (o : List ℕ) → IsPermutation m o → Canonical w net o (setting w net o)
unfolding Canonical setting
canonical_exists_of L (none h) o O = refl
canonical_exists_of {w} L {m} (some {top = top} {bottom = bottom} h t u) o O =
    let k = up m in
    let input = (walk k k (mate w k o)).bits in
    let S = walk_settles L m h o O in
    record {
      input = input;
      top = setting w top (order_of_half w k o input false k);
      bottom = setting w bottom (order_of_half w k o input true (down m));
      output = outputs w m o input;
      in_sequence = refl;
      settled = S;
      in_top = canonical_exists_of L t (order_of_half w k o input false k) (top_permutation L m (omega arith) o O input S.input_count S.apart);
      in_bottom = canonical_exists_of L u (order_of_half w k o input true (down m)) (bottom_permutation L m (omega arith) o O input S.input_count S.apart);
    }

-- every order has a canonical setting
pub canonical_exists : {w : Wiring} → Lawful w → (n : ℕ) (o : List ℕ) → IsPermutation n o
    → Canonical w (network n) o (setting w (network n) o)
canonical_exists L n o O = canonical_exists_of L (sized n) o O
