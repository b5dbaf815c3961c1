-- Steps 1, 2 and 3 of a network are one round of the walk (crate canonical, Round.antt).
-- Assumes nothing.
use mathlib.Core.Path.{◌≡◌, refl, sym, ap, ◌∙◌}
use mathlib.Core.Logic.{◌≢◌}
use mathlib.Core.Bool.{Bool, true, false, not, cond, false≢true}
use mathlib.Core.List.{List}
use Prim.Native.Nat.{ℕ, zero, suc, ◌+◌, ◌-◌, ◌≤◌, ◌<◌}
use native.Mathlib.Omega.{arith}
use native.Mathlib.Decide.{ℕ_discrete, dec_lt}
use lib.Dec.{ltb, eqb}
use lib.ListN.{length, get_or}
use borrow.Author.Tests.{lt-ltb, le-ltb, eq-eqb, ne_eqb, ltb-true}
use Rattle.answers.specs.Questions.{first_bad_from}
use Rattle.answers.proofs.Questions.{all_good, none_bad}
use Rattle.counts.specs.Counts.{up}
use Rattle.network.specs.Wiring.{Wiring, Lawful, Side}
use Rattle.permutation.specs.Permutations.{IsPermutation}
use Rattle.canonical.specs.Rule.{held}
use Rattle.canonical.proofs.Marks.{Lowest}
use Rattle.canonical.proofs.Round.{Stage, Round}
use Rattle.canonical.proofs.Held.{mate, mate-below, mate_holds, held_at, entry_in, entry_past}
use Rattle.steps.specs.Sweeps.{look, store, marked, none_marked, lowest_unmarked}
use Rattle.steps.specs.State.{State, Subnetwork}
use Rattle.steps.specs.Steps.{other, digit, step2, step3}
use Rattle.steps.proofs.Sweeps.{length-store, store_at, store_off, look_in, look_out, seek-to}

-- ---- the first bad index

first_is : (good : ℕ → Bool) (n i j : ℕ) → i ≤ j → j < i + n → good j ≡ false → ((q : ℕ) → q < j → good q ≡ true)
    → first_bad_from good n i ≡ j
unfolding first_bad_from
first_is good zero i j a b e h = absurd (omega arith)
first_is good (suc n) i j a b e h = go (λ x y. first_is good n (suc i) j x y e h) (ℕ_discrete i j)
  where
    go : (suc i ≤ j → j < suc i + n → first_bad_from good n (suc i) ≡ j) → Dec (i ≡ j) → first_bad_from good (suc n) i ≡ j
    go ih (yes q) = rw (ap good q ∙ e, first_bad_from) q
    go ih (no q) = rw (h i (omega arith), first_bad_from) (ih (omega arith) (omega arith))

lowest_is : (marks : List ℕ) (k j : ℕ) → Lowest k (marked marks) j → lowest_unmarked marks k ≡ j
lowest_is marks k j l = first_is (marked marks) k 0 j (omega arith) (omega (arith, l.below)) l.unmarked l.before

pub none_marked_lem : (marks : List ℕ) (k : ℕ) → ((j : ℕ) → j < k → marked marks j ≡ false) → none_marked marks k ≡ true
none_marked_lem marks k h = eq-eqb _ _ (none_bad (λ i. not (marked marks i)) k (λ i l. ap not (h i l)))

pub some_marked : (marks : List ℕ) (k j : ℕ) → j < k → marked marks j ≡ true → none_marked marks k ≡ false
some_marked marks k j l h =
    ne_eqb _ _ (λ e. false≢true (sym (ap not h) ∙ all_good (λ i. not (marked marks i)) k e j l))

pub digit_is : (t : Bool) → eqb (digit t) 1 ≡ t
digit_is true = refl
digit_is false = refl

cond_same : {A : Type 0} (t : Bool) (a : A) → cond t a a ≡ a
cond_same true a = refl
cond_same false a = refl

module _ {w : Wiring} (L : Lawful w) (N : Subnetwork) (some : 0 < N.size) (o : List ℕ) (O : IsPermutation N.size o) where
  abbrev k : ℕ
  k = up N.size

  fits : N.size ≤ k + k
  fits = omega arith

  -- the walk's stage: a bit counts once its pair is marked, and the last pair has none
  abbrev pub stage : State → Stage
  stage x =
      record {
        mark = marked x.marks;
        bit = λ i.
            cond (marked x.marks i) (cond (ltb (suc i) (up N.size)) (eqb (get_or x.bits (N.bit + i) 0) 1) false) false;
        f = w.dec (up N.size) x.f;
        c = w.dec (up N.size) x.c;
      }

  -- the table holds the order, and has room
  pub record Ready (x : State) : Type 0 where
    pub holds : (q : ℕ) → q < N.size → get_or x.values (N.place q) 0 ≡ get_or o q 0
    pub marks_room : up N.size ≤ length x.marks
    pub bits_room : N.bit + (up N.size - 1) ≤ length x.bits

  -- f and c are places, imagined ones too, and g is the value at f
  pub record Loaded (x : State) : Type 0 where
    pub f_below : x.f < up N.size + up N.size
    pub c_below : x.c < up N.size + up N.size
    pub value : x.g ≡ look N.place N.size x.values x.f

  module _ (x : State) (R : Ready x) (Z : Loaded x) where
    abbrev p : Side
    p = w.dec k x.f

    abbrev s : Side
    s = mate w k o p

    p< : p.0 < k
    p< = L.dec< k x.f Z.f_below

    s< : s.0 < k
    s< = mate-below L k N.size fits o O p p<

    f_is : w.enc k p ≡ x.f
    f_is = L.enc_dec k x.f Z.f_below

    -- g is the value held at f
    g_is : x.g ≡ get_or o x.f x.f
    g_is = Z.value ∙ go (dec_lt x.f N.size)
      where
        go : Dec (x.f < N.size) → look N.place N.size x.values x.f ≡ get_or o x.f x.f
        go (yes l) =
            look_in N.place x.values N.size x.f l
            ∙ R.holds x.f l
            ∙ sym (entry_in N.size o O x.f l)
        go (no l) =
            look_out N.place x.values N.size x.f (omega arith)
            ∙ sym (entry_past N.size o O x.f (omega arith))

    associate : other w k x.g ≡ w.enc k (held w k o s)
    unfolding held
    associate =
        ap (λ q. w.enc k ((w.dec k q).0, not (w.dec k q).1)) (g_is ∙ ap (λ q. get_or o q q) (sym f_is))
        ∙ ap (w.enc k) (sym (mate_holds L k N.size fits o O p p<))

    -- step 2 finds the mate's place
    found : (step2 w N x).s ≡ w.enc k s
    unfolding step2
    found =
        rw (associate ∙ held_at L k N.size fits o O s s<)
        (seek-to N.place x.values a r N.size only there ∙ last (dec_lt r N.size))
      where
        r : ℕ
        r = w.enc k s

        a : ℕ
        a = get_or o r r

        there : r < N.size → get_or x.values (N.place r) 0 ≡ a
        there l = R.holds r l ∙ sym (entry_in N.size o O r l)

        only : (q : ℕ) → q < N.size → get_or x.values (N.place q) 0 ≡ a → q ≡ r
        only q l e = go (dec_lt r N.size)
          where
            go : Dec (r < N.size) → q ≡ r
            go (yes h) = O.unlike q r l h (sym (R.holds q l) ∙ e ∙ entry_in N.size o O r h)
            go (no h) =
                absurd (omega (arith, O.below q l, sym (R.holds q l) ∙ e ∙ entry_past N.size o O r (omega arith)))

        last : Dec (r < N.size) → cond (ltb r N.size) r a ≡ r
        last (yes h) = rw (lt-ltb r N.size h)
        last (no h) = rw (le-ltb r N.size (omega arith)) (entry_past N.size o O r (omega arith))

    -- ---- step 3

    abbrev y : State
    y = step2 w N x

    abbrev z : State
    z = step3 w N (step2 w N x)

    at-s : w.dec k y.s ≡ s
    at-s = ap (w.dec k) found ∙ L.dec_enc k s s<

    other-s : other w k y.s ≡ w.enc k (s.0, not s.1)
    other-s = ap (λ (q : Side). w.enc k (q.0, not q.1)) at-s

    marks_is : z.marks ≡ store (λ i. i) k s.0 1 x.marks
    unfolding step2 step3
    marks_is = rw at-s

    bits_is : z.bits ≡ store (λ i. N.bit + i) (k - 1) s.0 (digit (not s.1)) x.bits
    unfolding step2 step3
    bits_is = rw at-s

    new_mark : get_or z.marks s.0 0 ≡ 1
    new_mark = rw marks_is (store_at (λ i. i) k s.0 1 x.marks s< (omega (arith, s<, R.marks_room)))

    old_mark : (j : ℕ) → j ≢ s.0 → get_or z.marks j 0 ≡ get_or x.marks j 0
    old_mark j d = rw marks_is (store_off (λ i. i) k s.0 1 x.marks j (λ _. d))

    new_bit : suc s.0 < k → get_or z.bits (N.bit + s.0) 0 ≡ digit (not s.1)
    new_bit l =
        rw bits_is
        (store_at (λ i. N.bit + i) (k - 1) s.0 (digit (not s.1)) x.bits (omega arith) (omega (arith, R.bits_room)))

    -- no other bit changes
    pub old_bit : (q : ℕ) → (suc s.0 < k → q ≢ N.bit + s.0) → get_or z.bits q 0 ≡ get_or x.bits q 0
    old_bit q d =
        rw bits_is
        (store_off (λ i. N.bit + i) (k - 1) s.0 (digit (not s.1)) x.bits q (λ l. d (omega arith)))

    -- where the walk would go on, and whether it begins a new ring instead
    abbrev low : ℕ
    low = lowest_unmarked z.marks k

    abbrev onward : ℕ
    onward = w.enc k (s.0, not s.1)

    abbrev anew : Bool
    anew = cond (eqb (w.enc k (s.0, not s.1)) x.c) (ltb (lowest_unmarked z.marks k) k) false

    f-after : z.f ≡ cond anew (w.enc k (low, false)) onward
    unfolding step2 step3
    f-after = rw other-s

    c-after : z.c ≡ cond anew (w.enc k (low, false)) x.c
    unfolding step2 step3
    c-after = rw other-s

    c_is : w.enc k (w.dec k x.c) ≡ x.c
    c_is = L.enc_dec k x.c Z.c_below

    stage-bit : State → ℕ → Bool
    stage-bit v i = cond (marked v.marks i) (cond (ltb (suc i) k) (eqb (get_or v.bits (N.bit + i) 0) 1) false) false

    last_bit : (v : State) (j : ℕ) → suc j ≡ k → stage-bit v j ≡ false
    unfolding stage-bit
    last_bit v j e = rw (le-ltb (suc j) k (omega arith)) (cond_same (marked v.marks j) false)

    pub round : Round k (mate w k o) (stage x) (stage z)
    unfolding stage-bit
    round =
        record {
          mark_new = ap (λ b. eqb b 1) new_mark;
          mark_old = λ j _ d. ap (λ b. eqb b 1) (old_mark j d);
          bit_new = λ h. rw (new_mark, lt-ltb (suc s.0) k h, new_bit h) (digit_is (not s.1));
          bit_last = λ j e. last_bit z j e ∙ sym (last_bit x j e);
          bit_old = λ j _ d. rw (old_mark j d, old_bit (N.bit + j) (λ _ q. d (omega arith)));
          go_on = λ d.
              let e : eqb onward x.c ≡ false
              = ne_eqb _ _ (λ q. d (sym (L.dec_enc k (s.0, not s.1) s<) ∙ ap (w.dec k) q)) in
              (ap (w.dec k) (f-after ∙ rw e) ∙ L.dec_enc k (s.0, not s.1) s<, ap (w.dec k) (c-after ∙ rw e));
          again = λ q j l.
              let e : eqb onward x.c ≡ true = eq-eqb _ _ (ap (w.enc k) q ∙ c_is) in
              let u : low ≡ j = lowest_is z.marks k j l in (
                ap (w.dec k) (f-after ∙ rw (e, u, lt-ltb j k l.below)) ∙ L.dec_enc k (j, false) l.below,
                ap (w.dec k) (c-after ∙ rw (e, u, lt-ltb j k l.below)) ∙ L.dec_enc k (j, false) l.below,
              );
        }

    low_below : (t : Bool) → cond t (ltb low k) false ≡ true → low < k
    low_below true e = ltb-true low k e
    low_below false e = absurd (false≢true e)

    -- f and c stay places
    pub places-after : (z.f < k + k) × (z.c < k + k)
    places-after = go anew refl
      where
        go : (t : Bool) → anew ≡ t → (z.f < k + k) × (z.c < k + k)
        go true e =
            let l = L.enc< k (low, false) (low_below (eqb onward x.c) e) in
            (rw (f-after, e) l, rw (c-after, e) l)
        go false e = (rw (f-after, e) (L.enc< k (s.0, not s.1) s<), rw (c-after, e) Z.c_below)

    pub ready_after : Ready z
    unfolding step2 step3
    ready_after =
        record {
          holds = R.holds;
          marks_room = rw (length-store (λ i. i) k _ 1 x.marks) R.marks_room;
          bits_room = rw (length-store (λ i. N.bit + i) (k - 1) _ _ x.bits) R.bits_room;
        }

    pub digits-after :
        ((i : ℕ) → suc i < k → get_or x.marks i 0 ≡ 1 → get_or x.bits (N.bit + i) 0 < 2)
        → (i : ℕ)
        → suc i < k
        → get_or z.marks i 0 ≡ 1
        → get_or z.bits (N.bit + i) 0 < 2
    digits-after h i l m = go (ℕ_discrete i s.0)
      where
        small : (t : Bool) → digit t < 2
        small true = omega arith
        small false = omega arith

        go : Dec (i ≡ s.0) → get_or z.bits (N.bit + i) 0 < 2
        go (yes e) = rw (e, new_bit (rw e at l)) (small (not s.1))
        go (no d) = rw (old_bit (N.bit + i) (λ _ q. d (omega arith))) (h i l (sym (old_mark i d) ∙ m))
