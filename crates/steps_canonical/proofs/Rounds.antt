-- k rounds of steps 1, 2 and 3 settle the input bits of a network as the rule asks, and touch nothing else but the marks.
-- Assumes nothing.
use mathlib.Core.Path.{◌≡◌, refl, sym, ◌∙◌}
use mathlib.Core.Logic.{◌≢◌, ◌⊎◌, inl, inr}
use mathlib.Core.Bool.{Bool, true, false}
use mathlib.Core.List.{List}
use Prim.Native.Nat.{ℕ, zero, suc, ◌+◌, ◌-◌, ◌≤◌, ◌<◌}
use native.Mathlib.Omega.{arith}
use native.Mathlib.Decide.{dec_lt}
use lib.ListN.{length, get_or}
use borrow.Author.Tests.{lt-ltb, eqb-true}
use Rattle.counts.specs.Counts.{up}
use Rattle.network.specs.Wiring.{Wiring, Lawful}
use Rattle.permutation.specs.Permutations.{IsPermutation}
use Rattle.bits.specs.Bits.{Bits}
use Rattle.canonical.specs.Rule.{Apart, LowestStraight}
use Rattle.canonical.proofs.Sides.{clash, bits_within, bit_at, bit_at_past}
use Rattle.canonical.proofs.Rings.{Matching}
use Rattle.canonical.proofs.Round.{Stage, Begun, Round, Done}
use Rattle.canonical.proofs.Rounds.{all_rounds}
use Rattle.canonical.proofs.Held.{mate, mate-below, matching}
use Rattle.canonical.proofs.Setting.{done-apart, done-lowest}
use Rattle.steps.specs.Sweeps.{marked, none_marked}
use Rattle.steps.specs.State.{State, Subnetwork}
use Rattle.steps.specs.Steps.{step1, step2, step3}
use Rattle.steps.specs.Fold.{rounds_of}
use Rattle.steps.proofs.Sweeps.{length-store, store_off}
use Rattle.steps_canonical.proofs.Parts.{part, length_part, part_at}
use Rattle.steps_canonical.proofs.Round.{stage, Ready, Loaded, none_marked_lem, some_marked, round}
use Rattle.steps_canonical.proofs.Round.{ready_after, places-after, digits-after, old_bit}

-- the input bits of a network, of all bits
abbrev pub input_of : Subnetwork → List ℕ → List ℕ
input_of N bits = part N.bit (up N.size - 1) bits

module _ {w : Wiring} (L : Lawful w) (N : Subnetwork) (some : 0 < N.size) (o : List ℕ) (O : IsPermutation N.size o) where
  abbrev k : ℕ
  k = up N.size

  pairs : Matching k (mate w k o)
  pairs = matching L k N.size (omega arith) o O

  abbrev Fit : State → Type 0
  Fit = Ready L N some o O

  -- step 1 sets f and c, or they are places already
  Enters : State → Type 0
  Enters x = (none_marked x.marks k ≡ true) ⊎ ((x.f < k + k) × (x.c < k + k))

  -- the bits of marked pairs are bits
  Digits : State → Type 0
  Digits x = (i : ℕ) → suc i < k → get_or x.marks i 0 ≡ 1 → get_or x.bits (N.bit + i) 0 < 2

  fit-first : (x : State) → Fit x → Fit (step1 w N x)
  unfolding step1
  fit-first x R = record { holds = R.holds; marks_room = R.marks_room; bits_room = R.bits_room }

  loaded : (x : State) → Enters x → Loaded L N some o O (step1 w N x)
  unfolding step1 Enters
  loaded x h = go (none_marked x.marks k) refl h
    where
      go : (t : Bool) → none_marked x.marks k ≡ t → (none_marked x.marks k ≡ true) ⊎ ((x.f < k + k) × (x.c < k + k))
          → Loaded L N some o O (step1 w N x)
      go true e h =
          let l = L.enc< k (k - 1, false) (omega arith) in
          rw e (record { f_below = l; c_below = l; value = refl })
      go false e (inl q) = clash q e
      go false e (inr h) = rw e (record { f_below = h.0; c_below = h.1; value = refl })

  -- what n rounds keep
  pub record Passed (x y : State) : Type 0 where
    pub ready : Ready L N some o O y
    pub values_same : y.values ≡ x.values
    pub trails_same : y.trails ≡ x.trails
    pub marks_length : length y.marks ≡ length x.marks
    pub bits_length : length y.bits ≡ length x.bits
    pub marks_off : (q : ℕ) → up N.size ≤ q → get_or y.marks q 0 ≡ get_or x.marks q 0
    pub bits_off : (q : ℕ) → (q < N.bit) ⊎ (N.bit + (up N.size - 1) ≤ q) → get_or y.bits q 0 ≡ get_or x.bits q 0

  abbrev one_round : State → State
  one_round x = step3 w N (step2 w N (step1 w N x))

  module _ (x y : State) (P : Passed x y) (E : Enters y) where
    abbrev y₁ : State
    y₁ = step1 w N y

    R₁ : Fit y₁
    R₁ = fit-first y P.ready

    Z₁ : Loaded L N some o O y₁
    Z₁ = loaded y E

    apart : (q : ℕ) → (q < N.bit) ⊎ (N.bit + (k - 1) ≤ q) → (i : ℕ) → suc i < k → q ≢ N.bit + i
    apart q (inl h) i l = omega arith
    apart q (inr h) i l = omega arith

    pass_more : Passed x (one_round y)
    unfolding step1 step2 step3
    pass_more =
        record {
          ready = ready_after L N some o O y₁ R₁ Z₁;
          values_same = P.values_same;
          trails_same = P.trails_same;
          marks_length = length-store (λ i. i) k _ 1 y.marks ∙ P.marks_length;
          bits_length = length-store (λ i. N.bit + i) (k - 1) _ _ y.bits ∙ P.bits_length;
          marks_off = λ q h. store_off (λ i. i) k _ 1 y.marks q (λ l. omega arith) ∙ P.marks_off q h;
          bits_off = λ q h. old_bit L N some o O y₁ R₁ Z₁ q (apart q h _) ∙ P.bits_off q h;
        }

    enters_more : Enters (one_round y)
    unfolding Enters
    enters_more = inr (places-after L N some o O y₁ R₁ Z₁)

    digits_more : Digits y → Digits (one_round y)
    unfolding Digits step1
    digits_more D = digits-after L N some o O y₁ R₁ Z₁ D

    -- after a round a pair is marked, so step 1 leaves f and c
    round_more : Round k (mate w k o) (stage L N some o O y₁) (stage L N some o O (step1 w N (one_round y)))
    unfolding step1
    round_more = rw (some_marked (one_round y).marks k _ below S.mark_new) S
      where
        S : Round k (mate w k o) (stage L N some o O y₁) (stage L N some o O (one_round y))
        S = round L N some o O y₁ R₁ Z₁

        below : (mate w k o (w.dec k y₁.f)).0 < k
        below = mate-below L k N.size (omega arith) o O (w.dec k y₁.f) (L.dec< k y₁.f Z₁.f_below)

  module _ (x : State) (R : Fit x) (U : (j : ℕ) → j < k → get_or x.marks j 0 ≡ 0) where
    blank : (j : ℕ) → j < k → marked x.marks j ≡ false
    blank j l = rw (U j l) refl

    record Kept (y : State) : Type 0 where
      passed : Passed x y
      enters : Enters y
      digits : Digits y

    kept : (n : ℕ) → Kept (rounds_of w N n x)
    unfolding rounds_of Enters Digits
    kept zero =
        record {
          passed =
              record {
                ready = R;
                values_same = refl;
                trails_same = refl;
                marks_length = refl;
                bits_length = refl;
                marks_off = λ q _. refl;
                bits_off = λ q _. refl;
              };
          enters = inl (none_marked_lem x.marks k blank);
          digits = λ i l e. absurd (omega (arith, e, U i (omega arith)));
        }
    kept (suc n) =
        let K = kept n in
        record {
          passed = pass_more x (rounds_of w N n x) K.passed K.enters;
          enters = enters_more x (rounds_of w N n x) K.passed K.enters;
          digits = digits_more x (rounds_of w N n x) K.passed K.enters K.digits;
        }

    begun : Begun k (stage L N some o O (step1 w N x))
    unfolding step1
    begun =
        record {
          no_mark = blank;
          no_bit = λ j l. rw (blank j l) refl;
          at_f = rw (none_marked_lem x.marks k blank) (L.dec_enc k (k - 1, false) (omega arith));
          at_c = rw (none_marked_lem x.marks k blank) (L.dec_enc k (k - 1, false) (omega arith));
        }

    abbrev at : ℕ → Stage
    at n = stage L N some o O (step1 w N (rounds_of w N n x))

    next : (n : ℕ) → Round k (mate w k o) (at n) (at (suc n))
    unfolding rounds_of
    next n = round_more x (rounds_of w N n x) (kept n).passed (kept n).enters

    done : Done k (mate w k o) (at k)
    unfolding rounds_of
    done =
        all_rounds k (omega arith) (mate w k o) pairs
        at
        begun
        (λ n _ _. next n)

    abbrev after : State
    after = rounds_of w N k x

    abbrev input : List ℕ
    input = input_of N after.bits

    pub rounds_keep : Passed x (rounds_of w N (up N.size) x)
    rounds_keep = (kept k).passed

    all_marked : (i : ℕ) → i < k → get_or after.marks i 0 ≡ 1
    unfolding step1
    all_marked i l = eqb-true (get_or after.marks i 0) 1 (done.all i l)

    room : N.bit + (k - 1) ≤ length after.bits
    room = rounds_keep.ready.bits_room

    pub input_count : length input ≡ k - 1
    input_count = length_part N.bit (k - 1) after.bits room

    input-at : (i : ℕ) → suc i < k → get_or input i 0 ≡ get_or after.bits (N.bit + i) 0
    input-at i l = part_at N.bit (k - 1) after.bits i (omega arith)

    pub input_are_bits : Bits input
    unfolding Digits
    input_are_bits =
        bits_within input
        (λ i l.
        let h : suc i < k = omega (arith, input_count) in
        rw (input-at i h) ((kept k).digits i h (all_marked i (omega arith))))

    same_bit : (i : ℕ) → i < k → (at k).bit i ≡ bit_at input i
    unfolding step1
    same_bit i l = go (dec_lt (suc i) k)
      where
        go : Dec (suc i < k) → (at k).bit i ≡ bit_at input i
        go (yes h) = rw (all_marked i l, lt-ltb (suc i) k h, input-at i h)
        go (no h) =
            done.last_straight i (omega arith) ∙ sym (bit_at_past input i (omega (arith, input_count)))

    pub input-apart : 2 ≤ N.size → Apart w k o input
    input-apart two = done-apart L N.size two o O (at k) done input input_count input_are_bits same_bit

    pub input-lowest : 2 ≤ N.size → LowestStraight w k o input
    input-lowest two = done-lowest L N.size two o O (at k) done input input_count input_are_bits same_bit
