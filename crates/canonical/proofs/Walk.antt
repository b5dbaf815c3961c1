-- The walk as lists that compute: k - 1 input bits, found in k rounds. It is the witness that there is a canonical setting.
-- Assumes nothing.
use mathlib.Core.Path.{◌≡◌, refl, sym, ap, ◌∙◌}
use mathlib.Core.Logic.{◌≢◌}
use mathlib.Core.Bool.{Bool, true, false, cond, ◌&&◌, beq}
use mathlib.Core.List.{List}
use Prim.Native.Nat.{ℕ, zero, suc, ◌-◌, ◌<◌}
use native.Mathlib.Omega.{arith}
use native.Mathlib.Decide.{ℕ_discrete}
use borrow.Author.Tests.{eq-eqb, eqb-true, lt-ltb}
use lib.ListN.{length, get_or, set, replicate, get_or-eq_default, length-set, length-replicate}
use lib.Seq.{get_or-set_same, get_or-set_other}
use lib.Dec.{eqb, ltb}
use Rattle.bits.specs.Bits.{Bits}
use Rattle.network.specs.Wiring.{Side}
use Rattle.permutation.proofs.Tables.{get_d_blank}
use Rattle.canonical.proofs.Sides.{bits_within, bit_at, bit_is, bit_below, other}
use Rattle.canonical.proofs.Rings.{Matching}
use Rattle.canonical.proofs.Marks.{lowest, lowest_is}
use Rattle.canonical.proofs.Round.{Stage, Round, Done}
use Rattle.canonical.proofs.Rounds.{f_in, all_rounds}

abbrev pub same_side : Side → Side → Bool
same_side p q = eqb p.0 q.0 && beq p.1 q.1

-- k marks and k - 1 bits
pub record Walk : Type 0 where
  pub marks : List Bool
  pub bits : List ℕ
  pub f : Side
  pub c : Side

abbrev pub stage : Walk → Stage
stage x = record { mark = λ i. get_or x.marks i false; bit = bit_at x.bits; f = x.f; c = x.c }

-- the last part of step 3: at a ring's end f and c go to the lowest unmarked pair
abbrev pub walk_on : ℕ → List Bool → List ℕ → Side → Side → Walk
walk_on k marks bits f c =
    let r = lowest k 0 (λ i. get_or marks i false) in
    let closed = same_side f c && ltb r k in
    record { marks = marks; bits = bits; f = cond closed (r, false) f; c = cond closed (r, false) c }

-- steps 1, 2, 3
abbrev pub round : ℕ → (Side → Side) → Walk → Walk
round k mate x =
    let s = mate x.f in
    walk_on k (set x.marks s.0 true) (set x.bits s.0 (cond s.1 0 1)) (other s) x.c

abbrev pub start : ℕ → Walk
start k = record { marks = replicate k false; bits = replicate (k - 1) 0; f = (k - 1, false); c = (k - 1, false) }

abbrev pub walk : ℕ → ℕ → (Side → Side) → Walk
walk zero k mate = start k
walk (suc n) k mate = round k mate (walk n k mate)

-- ---- tests

and_both : (a b : Bool) → (a && b) ≡ true → (a ≡ true) × (b ≡ true)
and_both true b e = (refl, e)
and_both false b e = (cc, cc)

beq_true : (a b : Bool) → beq a b ≡ true → a ≡ b
beq_true true true e = refl
beq_true true false e = cc
beq_true false true e = cc
beq_true false false e = refl

beq_refl : (a : Bool) → beq a a ≡ true
beq_refl true = refl
beq_refl false = refl

not_true_false : (b : Bool) → b ≢ true → b ≡ false
not_true_false true h = absurd (h refl)
not_true_false false h = refl

pub same_side_true : (p q : Side) → same_side p q ≡ true → p ≡ q
same_side_true p q e =
    let h = and_both (eqb p.0 q.0) (beq p.1 q.1) e in
    λ i. (eqb-true p.0 q.0 h.0 i, beq_true p.1 q.1 h.1 i)

pub true_same_side : (p q : Side) → p ≡ q → same_side p q ≡ true
true_same_side p q e = rw (← e, eq-eqb p.0 p.0 refl, beq_refl p.1) refl

-- ---- a round

pub record Lengths (k : ℕ) (x : Walk) : Type 0 where
  pub of_marks : length x.marks ≡ k
  pub of_bits : suc (length x.bits) ≡ k
  pub are_bits : Bits x.bits

set_bits : (bits : List ℕ) (i : ℕ) (t : Bool) → Bits bits → Bits (set bits i (cond t 0 1))
unfolding Bits
set_bits bits i t B = bits_within (set bits i (cond t 0 1)) (λ j l. go j (rw length-set at l) (ℕ_discrete j i))
  where
    go : (j : ℕ) → j < length bits → Dec (j ≡ i) → get_or (set bits i (cond t 0 1)) j 0 < 2
    go j l (yes e) = rw (e, get_or-set_same bits i (cond t 0 1) 0 (rw e at l)) (bit_below t)
    go j l (no d) = rw (get_or-set_other bits i j (cond t 0 1) 0 d) (B j)

module _ (k : ℕ) (mate : Side → Side) (x : Walk) (Z : Lengths k x) where
  round_lengths : Lengths k (round k mate x)
  round_lengths =
      record {
        of_marks = rw length-set Z.of_marks;
        of_bits = rw length-set Z.of_bits;
        are_bits = set_bits x.bits (mate x.f).0 (mate x.f).1 Z.are_bits;
      }

  module _ (l : (mate x.f).0 < k) where
    abbrev s : Side
    s = mate x.f

    abbrev bit : ℕ
    bit = cond s.1 0 1

    round-round : Round k mate (stage x) (stage (round k mate x))
    round-round =
        record {
          mark_new = get_or-set_same x.marks s.0 true false (omega (arith, Z));
          mark_old = λ j _ d. get_or-set_other x.marks s.0 j true false d;
          bit_new = λ h. ap (λ b. eqb b 1) (get_or-set_same x.bits s.0 bit 0 (omega (arith, Z))) ∙ bit_is s.1;
          bit_last = λ j e. ap (λ b. eqb b 1)
              (get_or-eq_default (set x.bits s.0 bit) 0 {n = j} (rw length-set (omega (arith, Z)))
              ∙ sym (get_or-eq_default x.bits 0 {n = j} (omega (arith, Z))));
          bit_old = λ j _ d. ap (λ b. eqb b 1) (get_or-set_other x.bits s.0 j bit 0 d);
          go_on = λ ne. let e = not_true_false (same_side (other s) x.c) (λ q. ne (same_side_true _ _ q)) in (rw e refl, rw e refl);
          again = λ e j L.
              let q = true_same_side (other s) x.c e in
              let h = L.below in
              let u = lowest_is k 0 j (λ i. get_or (set x.marks s.0 true) i false) (omega arith) (omega arith) L.unmarked L.before in
              let v = lt-ltb j k L.below in
              (rw (q, u, v) refl, rw (q, u, v) refl);
        }

-- ---- all rounds

pub walk_lengths : (n k : ℕ) (mate : Side → Side) → 0 < k → Lengths k (walk n k mate)
unfolding Bits
walk_lengths zero k mate l =
    record {
      of_marks = length-replicate k false;
      of_bits = rw (length-replicate {A = ℕ} (k - 1) 0) (omega arith);
      are_bits = λ i. rw (get_d_blank {A = ℕ} (k - 1) i 0) (omega arith);
    }
walk_lengths (suc n) k mate l = round_lengths k mate (walk n k mate) (walk_lengths n k mate l)

pub walk-done : (k : ℕ) (mate : Side → Side) → 0 < k → Matching k mate → Done k mate (stage (walk k k mate))
walk-done k mate l M =
    all_rounds k l mate M (λ n. stage (walk n k mate))
    (record {
      no_mark = λ j _. get_d_blank k j false;
      no_bit = λ j _. ap (λ b. eqb b 1) (get_d_blank {A = ℕ} (k - 1) j 0);
      at_f = refl;
      at_c = refl;
    })
    (λ n h a. round-round k mate (walk n k mate) (walk_lengths n k mate l) (M.below (walk n k mate).f (f_in k l mate M n (stage (walk n k mate)) h a)))
