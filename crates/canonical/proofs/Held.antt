-- The values that the places of a network hold, for a permutation: each value is held at exactly one place, and so is the
-- associate of each. With that the rule's words (Apart, Ring, LowestStraight) are those of a matching (Proper, Chain, Ruled).
-- Assumes nothing.
use mathlib.Core.Path.{◌≡◌, refl, sym, ap, ◌∙◌, subst}
use mathlib.Core.Bool.{false, cond}
use mathlib.Core.List.{List, [], ◌∷◌}
use Prim.Native.Nat.{ℕ, zero, suc, ◌+◌, ◌-◌, ◌≤◌, ◌<◌}
use native.Mathlib.Omega.{arith}
use native.Mathlib.Decide.{dec_lt}
use borrow.Author.Tests.{lt-ltb, le-ltb, eqb-false}
use lib.ListN.{length, get_or, get_or-eq_default}
use lib.Dec.{eqb, ltb}
use Rattle.bits.specs.Bits.{Bits}
use Rattle.network.specs.Wiring.{Wiring, Lawful, Side}
use Rattle.permutation.specs.Permutations.{IsPermutation, place_of}
use Rattle.permutation.proofs.Inverses.{place-below, place_holds}
use Rattle.canonical.specs.Rule.{held, half, HoldAssociates, Apart, Linked, Ring, here, link, LowestStraight}
use Rattle.canonical.proofs.Sides.{bit_at, bit_at_past, other, other-other, other_unlike, unlike_not, not_self}
use Rattle.canonical.proofs.Rings.{Chain, stay, along, Matching, Proper, Ruled}

-- inside a list the default does not matter
pub get_d_inside : {A : Type 0} (xs : List A) (i : ℕ) (d e : A) → i < length xs → get_or xs i d ≡ get_or xs i e
get_d_inside [] i d e h = absurd (omega arith)
get_d_inside (x ∷ xs) zero d e h = refl
get_d_inside (x ∷ xs) (suc i) d e h = get_d_inside xs i d e (omega arith)

-- the place that holds a value: past the end of the order that of its own number
unfoldable pub place_for : List ℕ → ℕ → ℕ
place_for o y = cond (ltb y (length o)) (place_of o y) y

-- the place, by pair and side, that holds the value v; and that which holds the associate of p's value
unfoldable pub seat : Wiring → ℕ → List ℕ → Side → Side
seat w k o v = w.dec k (place_for o (w.enc k v))

unfoldable pub mate : Wiring → ℕ → List ℕ → Side → Side
mate w k o p = seat w k o (other (held w k o p))

module _ (m : ℕ) (o : List ℕ) (O : IsPermutation m o) where
  pub entry_in : (q : ℕ) → q < m → get_or o q q ≡ get_or o q 0
  entry_in q h = get_d_inside o q q 0 (omega (arith, O.whole))

  pub entry_past : (q : ℕ) → m ≤ q → get_or o q q ≡ q
  entry_past q h = get_or-eq_default o q {n = q} (omega (arith, O.whole))

  entry_inside : (q : ℕ) → q < m → get_or o q q < m
  entry_inside q h = rw (entry_in q h) (O.below q h)

  entry-below : (n q : ℕ) → m ≤ n → q < n → get_or o q q < n
  entry-below n q h l = go (dec_lt q m)
    where
      go : Dec (q < m) → get_or o q q < n
      go (yes x) = omega (arith, entry_inside q x)
      go (no x) = rw (entry_past q (omega arith)) l

  entry_unlike : (q r : ℕ) → get_or o q q ≡ get_or o r r → q ≡ r
  entry_unlike q r e = go (dec_lt q m) (dec_lt r m)
    where
      go : Dec (q < m) → Dec (r < m) → q ≡ r
      go (yes x) (yes y) = O.unlike q r x y (sym (entry_in q x) ∙ e ∙ entry_in r y)
      go (yes x) (no y) = absurd (omega (arith, entry_inside q x, entry_past r (omega arith)))
      go (no x) (yes y) = absurd (omega (arith, entry_inside r y, entry_past q (omega arith)))
      go (no x) (no y) = sym (entry_past q (omega arith)) ∙ e ∙ entry_past r (omega arith)

  pub place_for_in : (y : ℕ) → y < m → place_for o y ≡ place_of o y
  unfolding place_for
  place_for_in y h = rw (lt-ltb y (length o) (omega (arith, O.whole)))

  pub place_for-past : (y : ℕ) → m ≤ y → place_for o y ≡ y
  unfolding place_for
  place_for-past y h = rw (le-ltb y (length o) (omega (arith, O.whole)))

  pub place_for-below : (n y : ℕ) → m ≤ n → y < n → place_for o y < n
  place_for-below n y h l = go (dec_lt y m)
    where
      go : Dec (y < m) → place_for o y < n
      go (yes x) = rw (place_for_in y x) (omega (arith, place-below m o O y x))
      go (no x) = rw (place_for-past y (omega arith)) l

  pub place_for_holds : (y : ℕ) → get_or o (place_for o y) (place_for o y) ≡ y
  place_for_holds y = go (dec_lt y m)
    where
      go : Dec (y < m) → get_or o (place_for o y) (place_for o y) ≡ y
      go (yes x) = rw (place_for_in y x) (entry_in (place_of o y) (place-below m o O y x) ∙ place_holds m o O y x)
      go (no x) = rw (place_for-past y (omega arith)) (entry_past y (omega arith))

module _ {w : Wiring} (L : Lawful w) (k m : ℕ) (fits : m ≤ k + k) (o : List ℕ) (O : IsPermutation m o) where
  pub held_below : (p : Side) → p.0 < k → (held w k o p).0 < k
  unfolding held
  held_below p l = L.dec< k _ (entry-below m o O (k + k) _ fits (L.enc< k p l))

  pub held_at : (p : Side) → p.0 < k → w.enc k (held w k o p) ≡ get_or o (w.enc k p) (w.enc k p)
  unfolding held
  held_at p l = L.enc_dec k _ (entry-below m o O (k + k) _ fits (L.enc< k p l))

  pub held_unlike : (p q : Side) → p.0 < k → q.0 < k → held w k o p ≡ held w k o q → p ≡ q
  held_unlike p q l h e =
      sym (L.dec_enc k p l)
      ∙ ap (w.dec k) (entry_unlike m o O _ _ (sym (held_at p l) ∙ ap (w.enc k) e ∙ held_at q h))
      ∙ L.dec_enc k q h

  pub seat-below : (v : Side) → v.0 < k → (seat w k o v).0 < k
  unfolding seat
  seat-below v l = L.dec< k _ (place_for-below m o O (k + k) _ fits (L.enc< k v l))

  pub seat_holds : (v : Side) → v.0 < k → held w k o (seat w k o v) ≡ v
  unfolding held seat
  seat_holds v l =
      ap (λ q. w.dec k (get_or o q q)) (L.enc_dec k _ (place_for-below m o O (k + k) _ fits (L.enc< k v l)))
      ∙ ap (w.dec k) (place_for_holds m o O (w.enc k v))
      ∙ L.dec_enc k v l

  pub mate-below : (p : Side) → p.0 < k → (mate w k o p).0 < k
  unfolding mate
  mate-below p l = seat-below (other (held w k o p)) (held_below p l)

  pub mate_holds : (p : Side) → p.0 < k → held w k o (mate w k o p) ≡ other (held w k o p)
  unfolding mate
  mate_holds p l = seat_holds (other (held w k o p)) (held_below p l)

  -- whatever place holds the associate is the mate
  pub mate_only : (p q : Side) → p.0 < k → q.0 < k → held w k o q ≡ other (held w k o p) → q ≡ mate w k o p
  mate_only p q l h e = held_unlike q (mate w k o p) h (mate-below p l) (e ∙ sym (mate_holds p l))

  pub matching : Matching k (mate w k o)
  matching =
      record {
        below = mate-below;
        twice = λ p l. sym (mate_only (mate w k o p) p (mate-below p l) l (sym (ap other (mate_holds p l) ∙ other-other (held w k o p))));
        moves = λ p l e. other_unlike (held w k o p) (sym (mate_holds p l) ∙ ap (held w k o) e);
      }

  -- ---- the rule's words

  pub holds_mate : (p : Side) → p.0 < k → HoldAssociates w k o p (mate w k o p)
  holds_mate p l =
      let e = mate_holds p l in
      record {
        first_below = l;
        second_below = mate-below p l;
        one_pair = sym (ap (λ (v : Side). v.0) e);
        two_sides = λ q. not_self (held w k o p).1 (sym (q ∙ ap (λ (v : Side). v.1) e));
      }

  pub is_mate : {p q : Side} → HoldAssociates w k o p q → q ≡ mate w k o p
  is_mate {p} {q} H =
      mate_only p q H.first_below H.second_below
      (λ i. (sym H.one_pair i, unlike_not (held w k o q).1 (held w k o p).1 (λ e. H.two_sides (sym e)) i))

  pub ring_chain : {i j : ℕ} → Ring w k o i j → Chain (mate w k o) i j
  unfolding Linked
  ring_chain here = stay
  ring_chain {i} {j} (link a r) =
      along (i, a.0) (subst (λ (q : Side). Chain (mate w k o) q.0 j) (is_mate a.2) (ring_chain r))

  pub chain_ring : {i j : ℕ} → Chain (mate w k o) i j → i < k → Ring w k o i j
  unfolding Linked
  chain_ring stay l = here
  chain_ring {i} {j} (along p r) l =
      link {h = (mate w k o p).0} (p.1, (mate w k o p).1, holds_mate p l) (chain_ring r (mate-below p l))

  ring_below : {i j : ℕ} → Ring w k o i j → i < k → j < k
  unfolding Linked
  ring_below here l = l
  ring_below (link a r) l = ring_below r a.2.second_below

  module _ (input : List ℕ) where
    pub proper_apart : Proper k (mate w k o) (bit_at input) → Apart w k o input
    unfolding Proper Apart half
    proper_apart h p q H e =
        not_self (half input p) (sym (h p H.first_below) ∙ sym (ap (half input) (is_mate H)) ∙ sym e)

    pub apart_proper : Apart w k o input → Proper k (mate w k o) (bit_at input)
    unfolding Proper Apart half
    apart_proper h p l =
        unlike_not (half input (mate w k o p)) (half input p) (λ e. h p (mate w k o p) (holds_mate p l) (sym e))

    module _ (enough : suc (length input) ≡ k) (B : Bits input) where
      straight_zero : (i : ℕ) → bit_at input i ≡ false → get_or input i 0 ≡ 0
      unfolding Bits
      straight_zero i e = omega (arith, B i, eqb-false (get_or input i 0) 1 e)

      pub ruled_lowest : Ruled k (mate w k o) (bit_at input) → LowestStraight w k o input
      unfolding LowestStraight
      ruled_lowest R i l apart lowest =
          straight_zero i
          (R.lowest_straight i l (λ j _ c. lowest j (chain_ring c l)) (λ j e c. apart (subst (Ring w k o i) (omega arith) (chain_ring c l))))

      pub lowest_ruled : LowestStraight w k o input → Ruled k (mate w k o) (bit_at input)
      unfolding LowestStraight
      lowest_ruled R =
          record {
            last_straight = λ i e. bit_at_past input i (omega arith);
            lowest_straight = λ i l lowest apart.
                ap (λ b. eqb b 1) (R i l (λ r. apart (k - 1) (omega arith) (ring_chain r)) (λ j r. lowest j (ring_below r l) (ring_chain r)));
          }
