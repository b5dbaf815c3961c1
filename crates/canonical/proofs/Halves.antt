-- The halves of a network whose associates enter different halves: their orders are permutations; and the output switches
-- turn each item to the side of its value. Assumes nothing.
use mathlib.Core.Path.{◌≡◌, refl, sym, ap, ◌∙◌, subst}
use mathlib.Core.Bool.{Bool, true, false, not, Bool-discrete, not-not}
use mathlib.Core.List.{List}
use Prim.Native.Nat.{ℕ, suc, ◌+◌, ◌-◌, ◌≤◌, ◌<◌}
use native.Mathlib.Omega.{arith}
use native.Mathlib.Decide.{dec_lt}
use lib.ListN.{length, get_or}
use lib.Dec.{eqb}
use Rattle.counts.specs.Counts.{up}
use Rattle.network.specs.Wiring.{Wiring, Lawful, Side}
use Rattle.network.specs.Network.{down}
use Rattle.permutation.specs.Permutations.{IsPermutation}
use Rattle.permutation.proofs.Tables.{length-tabulate, tabulate-at}
use Rattle.canonical.specs.Rule.{held, half, Apart, Finished, order_of_half}
use Rattle.canonical.proofs.Sides.{bit_at, bit_is, bit_at_past, turn, turn-turn}
use Rattle.canonical.proofs.Rings.{Proper}
use Rattle.canonical.proofs.Held.{entry_past, held_below, held_unlike, seat, seat-below, seat_holds, mate, mate_only, apart_proper}

-- the place of pair i whose item enters half t
abbrev pub feeder : List ℕ → Bool → ℕ → Side
feeder input t i = (i, half input (i, t))

pub feeder-enters : (input : List ℕ) (t : Bool) (i : ℕ) → half input (feeder input t i) ≡ t
unfolding half
feeder-enters input t i = turn-turn (bit_at input i) t

pub feeder_of : (input : List ℕ) (p : Side) → feeder input (half input p) p.0 ≡ p
unfolding half
feeder_of input p = λ i. (p.0, turn-turn (bit_at input p.0) p.1 i)

module _ (w : Wiring) (k : ℕ) (o input : List ℕ) (t : Bool) (c : ℕ) where
  pub length-half : length (order_of_half w k o input t c) ≡ c
  unfolding order_of_half
  length-half = length-tabulate (λ i. (held w k o (feeder input t i)).0) c

  pub half_at : (i : ℕ) → i < c → get_or (order_of_half w k o input t c) i 0 ≡ (held w k o (feeder input t i)).0
  unfolding order_of_half
  half_at i l = tabulate-at (λ i. (held w k o (feeder input t i)).0) c i l

module _ {w : Wiring} (L : Lawful w) (m : ℕ) (some : 0 < m) (o : List ℕ) (O : IsPermutation m o) where
  abbrev k : ℕ
  k = up m

  pub fits : m ≤ up m + up m
  fits = omega arith

  -- a pair without an output switch is the last one of an odd size; its other place is imagined
  pub record Imagined (j : ℕ) : Type 0 where
    pub last : suc j ≡ up m
    pub holds_itself : held w (up m) o (j, true) ≡ (j, true)

  pub imagined : (j : ℕ) → down m ≤ j → j < up m → Imagined j
  unfolding held
  imagined j h l =
      let last : suc j ≡ k = omega arith in
      let at : w.enc k (j, true) ≡ j + k = subst (λ n. w.enc n (j, true) ≡ j + n) last (L.enc_last j) in
      record {
        last = last;
        holds_itself = ap (w.dec k) (entry_past m o O (w.enc k (j, true)) (omega (arith, at))) ∙ L.dec_enc k (j, true) l;
      }

  module _ (input : List ℕ) (count : length input ≡ up m - 1) (A : Apart w (up m) o input) where
    pub proper : Proper (up m) (mate w (up m) o) (bit_at input)
    proper = apart_proper L k m fits o O input A

    -- the last pair is straight
    pub last_enters : (j : ℕ) (t : Bool) → suc j ≡ up m → half input (j, t) ≡ t
    unfolding half
    last_enters j t e = ap (λ b. turn b t) (bit_at_past input j (omega arith))

    -- two items that enter one half are no associates
    pub unlike_in_half : (t : Bool) (i j : ℕ) → i < up m → j < up m
        → (held w (up m) o (feeder input t i)).0 ≡ (held w (up m) o (feeder input t j)).0 → i ≡ j
    unfolding Apart
    unlike_in_half t i j l h e = go (Bool-discrete (held w k o (feeder input t i)).1 (held w k o (feeder input t j)).1)
      where
        go : Dec ((held w k o (feeder input t i)).1 ≡ (held w k o (feeder input t j)).1) → i ≡ j
        go (yes s) =
            ap (λ (p : Side). p.0)
            (held_unlike L k m fits o O (feeder input t i) (feeder input t j) l h (λ n. (e n, s n)))
        go (no s) =
            absurd
            (A (feeder input t i) (feeder input t j)
            (record { first_below = l; second_below = h; one_pair = e; two_sides = s })
            (feeder-enters input t i ∙ sym (feeder-enters input t j)))

    half_permutation : (t : Bool) (c : ℕ) → c ≤ up m
        → ((i : ℕ) → i < c → (held w (up m) o (feeder input t i)).0 < c)
        → IsPermutation c (order_of_half w (up m) o input t c)
    half_permutation t c h below =
        record {
          whole = length-half w k o input t c;
          below = λ i l. rw (half_at w k o input t c i l) (below i l);
          unlike = λ i j l g e. unlike_in_half t i j (omega arith) (omega arith) (sym (half_at w k o input t c i l) ∙ e ∙ half_at w k o input t c j g);
        }

    pub top_permutation : IsPermutation (up m) (order_of_half w (up m) o input false (up m))
    top_permutation = half_permutation false k (omega arith) (λ i l. held_below L k m fits o O (feeder input false i) l)

    pub bottom_permutation : IsPermutation (down m) (order_of_half w (up m) o input true (down m))
    bottom_permutation = half_permutation true (down m) (omega arith) below
      where
        below : (i : ℕ) → i < down m → (held w k o (feeder input true i)).0 < down m
        below i l = go (dec_lt (held w k o (feeder input true i)).0 (down m))
          where
            j : ℕ
            j = (held w k o (feeder input true i)).0

            j_below : j < k
            j_below = held_below L k m fits o O (feeder input true i) (omega arith)

            go : Dec (j < down m) → j < down m
            go (yes x) = x
            go (no x) =
                let I = imagined j (omega arith) j_below in
                let itself : held w k o (feeder input true j) ≡ (j, true) =
                ap (λ s. held w k o (j, s)) (last_enters j true I.last) ∙ I.holds_itself in
                absurd
                (omega (arith, unlike_in_half true i j (omega arith) j_below (sym (ap (λ (p : Side). p.0) itself)), I.last))

    module _ (output : List ℕ) (out-count : length output ≡ down m) (F : Finished w m o input output) where
      -- the half of the item whose value is (j, true), given as v's own side or the other
      side-law : (s h g : Bool) → (s ≡ true → g ≡ h) → (s ≡ false → g ≡ not h) → turn (not g) s ≡ h
      side-law true h true a b = a refl
      side-law true h false a b = a refl
      side-law false h true a b = ap not (b refl) ∙ not-not h
      side-law false h false a b = ap not (b refl) ∙ not-not h

      -- q holds (j, true), p a value of pair j
      other_half : (p q : Side) → p.0 < up m → q.0 < up m → held w (up m) o q ≡ ((held w (up m) o p).0, true)
          → turn (not (half input q)) (held w (up m) o p).1 ≡ half input p
      unfolding Proper half
      other_half p q l h e = side-law (held w k o p).1 (half input p) (half input q) same opposite
        where
          same : (held w k o p).1 ≡ true → half input q ≡ half input p
          same s = ap (half input) (held_unlike L k m fits o O q p h l (e ∙ (λ i. ((held w k o p).0, sym s i))))

          opposite : (held w k o p).1 ≡ false → half input q ≡ not (half input p)
          opposite s =
              ap (half input) (mate_only L k m fits o O p q l h (e ∙ (λ i. ((held w k o p).0, sym (ap not s) i))))
              ∙ proper p l

      -- an item leaves its half for the side of its value
      pub out_law : (p : Side) → p.0 < up m → half output (held w (up m) o p) ≡ half input p
      unfolding Finished half
      out_law p l = go (dec_lt j (down m))
        where
          j : ℕ
          j = (held w k o p).0

          j_below : j < k
          j_below = held_below L k m fits o O p l

          q : Side
          q = seat w k o (j, true)

          go : Dec (j < down m) → half output (held w k o p) ≡ half input p
          go (yes x) =
              let h = seat-below L k m fits o O (j, true) j_below in
              let e = seat_holds L k m fits o O (j, true) j_below in
              ap (λ b. turn (eqb b 1) (held w k o p).1) (F j x q h e)
              ∙ ap (λ b. turn b (held w k o p).1) (bit_is (half input q))
              ∙ other_half p q l h e
          go (no x) =
              let I = imagined j (omega arith) j_below in
              ap (λ b. turn b (held w k o p).1) (bit_at_past output j (omega arith))
              ∙ ap (λ g. turn (not g) (held w k o p).1) (sym (last_enters j true I.last))
              ∙ other_half p (j, true) l j_below I.holds_itself
