-- The invariant of the walk, and that a round keeps it. Of the places, those are visited whose associate was looked for or
-- found. The visited places and those of marked pairs are the same but for c, visited only, and f, of a marked pair only,
-- while f is not c. So the place s of step 2 is new, and a round marks exactly one pair.
-- Assumes nothing.
use mathlib.Core.Path.{◌≡◌, refl, sym, ap, ◌∙◌, subst, subst₂}
use mathlib.Core.Logic.{◌≢◌, ◌⊎◌, inl, inr, ⊎_map}
use mathlib.Core.Bool.{Bool, true, false, not}
use Prim.Native.Nat.{ℕ, suc, ◌≤◌, ◌<◌}
use native.Mathlib.Omega.{arith}
use native.Mathlib.Decide.{ℕ_discrete, dec_lt}
use Rattle.network.specs.Wiring.{Side}
use Rattle.canonical.proofs.Sides.{clash, turn, turn-to_bottom, other, other_unlike, side_discrete, same_pair, enters, enters-other}
use Rattle.canonical.proofs.Rings.{Chain, stay, along, Matching}
use Rattle.canonical.proofs.Marks.{count, count-mark, Lowest, lowest-or_none}
use Rattle.canonical.proofs.Round.{Stage, Round, Good, Done}
use Rattle.canonical.proofs.Visits.{add, add_same, add-other, add_old, added}

-- the two ends of the part of the ring that was walked: one place at its start
abbrev pub Ends : Stage → (Side → Bool) → Type 0
Ends x visited = (x.f ≡ x.c) ⊎ ((visited x.c ≡ true) × (x.mark x.f.0 ≡ true))

pub record Invariant (k : ℕ) (mate : Side → Side) (x : Stage) (visited : Side → Bool) : Type 0 where
  pub visited_mates : (p : Side) → p.0 < k → visited p ≡ true → visited (mate p) ≡ true
  pub opposite : (p : Side) → p.0 < k → visited p ≡ true → enters x.bit (mate p) ≡ not (enters x.bit p)
  pub marked : (p : Side) → p.0 < k → p ≢ x.f → p ≢ x.c → visited p ≡ x.mark p.0
  pub f_below : x.f.0 < k
  pub c_below : x.c.0 < k
  pub f_top : enters x.bit x.f ≡ false
  pub c_top : enters x.bit x.c ≡ false
  pub c_low : x.c.1 ≡ false
  pub unmarked_straight : (j : ℕ) → j < k → x.mark j ≡ false → x.bit j ≡ false
  pub f_new : visited x.f ≡ false
  pub c_unmarked : x.mark x.c.0 ≡ false
  pub ends : Ends x visited
  pub last_first : (j : ℕ) → suc j ≡ k → x.mark j ≡ false → x.c.0 ≡ j
  pub c_lowest : (suc x.c.0 ≡ k) ⊎ ((j : ℕ) → j < k → x.mark j ≡ false → x.c.0 ≤ j)
  pub linked : Chain mate x.f.0 x.c.0
  pub rule : (i : ℕ) → i < k → x.mark i ≡ true → Good k mate x.bit i
  pub last_straight : (j : ℕ) → suc j ≡ k → x.bit j ≡ false

abbrev pub Going : ℕ → (Side → Side) → Stage → Type 0
Going k mate x = (visited : Side → Bool) × Invariant k mate x visited

module _ (k : ℕ) (mate : Side → Side) (M : Matching k mate) where
  module _ (x y : Stage) (visited : Side → Bool) (I : Invariant k mate x visited) (S : Round k mate x y) where
    -- the place that holds the associate
    abbrev s : Side
    s = mate x.f

    s_below : s.0 < k
    s_below = M.below x.f I.f_below

    mate-s : mate s ≡ x.f
    mate-s = M.twice x.f I.f_below

    s≢f : s ≢ x.f
    s≢f = M.moves x.f I.f_below

    s_new : visited s ≡ false
    s_new = go (visited s) refl
      where
        go : (b : Bool) → visited s ≡ b → b ≡ false
        go false e = refl
        go true e = clash (ap visited (sym mate-s) ∙ I.visited_mates s s_below e) I.f_new

    s≢c : s ≢ x.c
    s≢c e = go I.ends
      where
        go : Ends x visited → ⊥
        go (inl q) = s≢f (e ∙ sym q)
        go (inr q) = clash (ap visited e ∙ q.0) s_new

    -- so its pair is not marked yet
    s-unmarked : x.mark s.0 ≡ false
    s-unmarked = sym (I.marked s s_below s≢f s≢c) ∙ s_new

    -- s enters the bottom, its partner the top
    s_bottom : enters y.bit s ≡ true
    s_bottom = go (dec_lt (suc s.0) k)
      where
        go : Dec (suc s.0 < k) → enters y.bit s ≡ true
        go (yes l) = ap (λ c. turn c s.1) (S.bit_new l) ∙ turn-to_bottom s.1
        go (no l) = at (same_pair s x.c (sym (I.last_first s.0 e s-unmarked)))
          where
            e : suc s.0 ≡ k
            e = omega (arith, s_below)

            at : (s ≡ x.c) ⊎ (s ≡ other x.c) → enters y.bit s ≡ true
            at (inl q) = absurd (s≢c q)
            at (inr q) = rw (S.bit_last s.0 e, I.last_straight s.0 e, ap (λ (p : Side). p.1) q, I.c_low) refl

    partner_top : enters y.bit (other s) ≡ false
    partner_top = enters-other y.bit s ∙ ap not s_bottom

    -- a place keeps its half, if it is not s, and was in the top where it is s's partner
    keep : (p : Side) → p.0 < k → p ≢ s → (p ≡ other s → enters x.bit p ≡ false) → enters y.bit p ≡ enters x.bit p
    keep p l n h = go (ℕ_discrete p.0 s.0)
      where
        go : Dec (p.0 ≡ s.0) → enters y.bit p ≡ enters x.bit p
        go (no d) = ap (λ c. turn c p.1) (S.bit_old p.0 l d)
        go (yes e) = at (same_pair p s e)
          where
            at : (p ≡ s) ⊎ (p ≡ other s) → enters y.bit p ≡ enters x.bit p
            at (inl q) = absurd (n q)
            at (inr q) = ap (enters y.bit) q ∙ partner_top ∙ sym (h q)

    keep_f : enters y.bit x.f ≡ false
    keep_f = keep x.f I.f_below (λ e. s≢f (sym e)) (λ _. I.f_top) ∙ I.f_top

    keep_visited : (p : Side) → p.0 < k → visited p ≡ true → enters y.bit p ≡ enters x.bit p
    keep_visited p l v = keep p l (λ e. clash (ap visited (sym e) ∙ v) s_new) (λ e. go e (side_discrete p x.f) (side_discrete p x.c))
      where
        go : p ≡ other s → Dec (p ≡ x.f) → Dec (p ≡ x.c) → enters x.bit p ≡ false
        go e (yes a) d = ap (enters x.bit) a ∙ I.f_top
        go e (no a) (yes b) = ap (enters x.bit) b ∙ I.c_top
        go e (no a) (no b) = clash v (I.marked p l a b ∙ ap (λ (q : Side). x.mark q.0) e ∙ s-unmarked)

    -- the link of f and s is visited
    now : Side → Bool
    now = add s (add x.f visited)

    now_f : now x.f ≡ true
    unfolding now
    now_f = add_old s (add x.f visited) x.f (add_same x.f visited)

    now_s : now s ≡ true
    unfolding now
    now_s = add_same s (add x.f visited)

    now_old : (p : Side) → visited p ≡ true → now p ≡ true
    unfolding now
    now_old p v = add_old s (add x.f visited) p (add_old x.f visited p v)

    now_other : (p : Side) → p ≢ s → p ≢ x.f → now p ≡ visited p
    unfolding now
    now_other p a b = add-other s (add x.f visited) p a ∙ add-other x.f visited p b

    visited_mates' : (p : Side) → p.0 < k → now p ≡ true → now (mate p) ≡ true
    unfolding now
    visited_mates' p l v = go (added s (add x.f visited) p v)
      where
        at : (p ≡ x.f) ⊎ (visited p ≡ true) → now (mate p) ≡ true
        at (inl e) = ap (λ q. now (mate q)) e ∙ now_s
        at (inr e) = now_old (mate p) (I.visited_mates p l e)

        go : (p ≡ s) ⊎ (add x.f visited p ≡ true) → now (mate p) ≡ true
        go (inl e) = ap (λ q. now (mate q)) e ∙ ap now mate-s ∙ now_f
        go (inr e) = at (added x.f visited p e)

    opposite' : (p : Side) → p.0 < k → now p ≡ true → enters y.bit (mate p) ≡ not (enters y.bit p)
    unfolding now
    opposite' p l v = go (added s (add x.f visited) p v)
      where
        at : (p ≡ x.f) ⊎ (visited p ≡ true) → enters y.bit (mate p) ≡ not (enters y.bit p)
        at (inl e) = rw e (s_bottom ∙ sym (ap not keep_f))
        at (inr e) = keep_visited (mate p) (M.below p l) (I.visited_mates p l e) ∙ I.opposite p l e ∙ sym (ap not (keep_visited p l e))

        go : (p ≡ s) ⊎ (add x.f visited p ≡ true) → enters y.bit (mate p) ≡ not (enters y.bit p)
        go (inl e) = rw e (ap (enters y.bit) mate-s ∙ keep_f ∙ sym (ap not s_bottom))
        go (inr e) = at (added x.f visited p e)

    mark_keep : (j : ℕ) → j < k → x.mark j ≡ true → y.mark j ≡ true
    mark_keep j l h = go (ℕ_discrete j s.0)
      where
        go : Dec (j ≡ s.0) → y.mark j ≡ true
        go (yes e) = ap y.mark e ∙ S.mark_new
        go (no d) = S.mark_old j l d ∙ h

    unmark : (j : ℕ) → j < k → y.mark j ≡ false → x.mark j ≡ false
    unmark j l h = go (x.mark j) refl
      where
        go : (b : Bool) → x.mark j ≡ b → b ≡ false
        go false e = refl
        go true e = clash (mark_keep j l e) h

    -- away from s's pair
    far : (p : Side) → p ≢ s → p ≢ other s → p.0 ≢ s.0
    far p a b e = go (same_pair p s e)
      where
        go : (p ≡ s) ⊎ (p ≡ other s) → ⊥
        go (inl q) = a q
        go (inr q) = b q

    -- elsewhere the places visited are those marked
    marked' : (p : Side) → p.0 < k → p ≢ x.f → p ≢ x.c → p ≢ other s → now p ≡ y.mark p.0
    marked' p l a b d = go (side_discrete p s)
      where
        go : Dec (p ≡ s) → now p ≡ y.mark p.0
        go (yes e) = rw e (now_s ∙ sym S.mark_new)
        go (no e) = now_other p e a ∙ I.marked p l a b ∙ sym (S.mark_old p.0 l (far p e d))

    mark-f : other s ≡ x.c → y.mark x.f.0 ≡ true
    mark-f e = go I.ends
      where
        go : Ends x visited → y.mark x.f.0 ≡ true
        go (inl q) = ap (λ (p : Side). y.mark p.0) (q ∙ sym e) ∙ S.mark_new
        go (inr q) = mark_keep x.f.0 I.f_below q.1

    now_c : now x.c ≡ true
    now_c = go I.ends
      where
        go : Ends x visited → now x.c ≡ true
        go (inl q) = ap now (sym q) ∙ now_f
        go (inr q) = now_old x.c q.0

    -- the ring is closed: the places visited are those marked
    closed : other s ≡ x.c → (p : Side) → p.0 < k → now p ≡ y.mark p.0
    closed e p l = go (side_discrete p x.f) (side_discrete p x.c)
      where
        go : Dec (p ≡ x.f) → Dec (p ≡ x.c) → now p ≡ y.mark p.0
        go (yes a) d = rw a (now_f ∙ sym (mark-f e))
        go (no a) (yes b) = rw b (now_c ∙ sym (ap (λ (q : Side). y.mark q.0) (sym e) ∙ S.mark_new))
        go (no a) (no b) = marked' p l a b (λ q. b (q ∙ e))

    unmarked_straight' : (j : ℕ) → j < k → y.mark j ≡ false → y.bit j ≡ false
    unmarked_straight' j l h = go (ℕ_discrete j s.0)
      where
        go : Dec (j ≡ s.0) → y.bit j ≡ false
        go (yes e) = clash (ap y.mark e ∙ S.mark_new) h
        go (no d) = S.bit_old j l d ∙ I.unmarked_straight j l (sym (S.mark_old j l d) ∙ h)

    last_straight' : (j : ℕ) → suc j ≡ k → y.bit j ≡ false
    last_straight' j e = S.bit_last j e ∙ I.last_straight j e

    ring_s : Chain mate s.0 x.c.0
    ring_s = along {j = x.c.0} s (rw mate-s I.linked)

    -- the house rule at s's pair
    good_s : Good k mate y.bit s.0
    unfolding Good
    good_s = go I.c_lowest
      where
        zero_bit : s ≡ other x.c → Dec (suc s.0 < k) → y.bit s.0 ≡ false
        zero_bit q (yes l) = S.bit_new l ∙ ap not (ap (λ (p : Side). p.1) q ∙ ap not I.c_low)
        zero_bit q (no l) = last_straight' s.0 (omega (arith, s_below))

        same : (s ≡ x.c) ⊎ (s ≡ other x.c) → y.bit s.0 ≡ false
        same (inl q) = absurd (s≢c q)
        same (inr q) = zero_bit q (dec_lt (suc s.0) k)

        at : x.c.0 ≤ s.0 → Dec (s.0 ≡ x.c.0) → Good k mate y.bit s.0
        at l (yes e) = inl (same (same_pair s x.c e))
        at l (no e) = inr (inr (x.c.0, omega arith, ring_s))

        go : (suc x.c.0 ≡ k) ⊎ ((j : ℕ) → j < k → x.mark j ≡ false → x.c.0 ≤ j) → Good k mate y.bit s.0
        go (inl e) = inr (inl (x.c.0, e, ring_s))
        go (inr h) = at (h s.0 s_below s-unmarked) (ℕ_discrete s.0 x.c.0)

    rule' : (i : ℕ) → i < k → y.mark i ≡ true → Good k mate y.bit i
    unfolding Good
    rule' i l m = go (ℕ_discrete i s.0)
      where
        go : Dec (i ≡ s.0) → Good k mate y.bit i
        go (yes e) = subst (Good k mate y.bit) (sym e) good_s
        go (no d) = rw (S.bit_old i l d) (I.rule i l (sym (S.mark_old i l d) ∙ m))

    -- the pair is new: one more is marked
    pub counted : count k y.mark ≡ suc (count k x.mark)
    counted = count-mark k x.mark y.mark s.0 s_below s-unmarked S.mark_new S.mark_old

    -- the walk goes on in its ring
    module _ (ne : other s ≢ x.c) where
      π≢f : other s ≢ x.f
      π≢f e = go I.ends
        where
          go : Ends x visited → ⊥
          go (inl q) = ne (e ∙ q)
          go (inr q) = clash q.1 (ap (λ (p : Side). x.mark p.0) (sym e) ∙ s-unmarked)

      c_far : x.c.0 ≢ s.0
      c_far = far x.c (λ e. s≢c (sym e)) (λ e. ne (sym e))

      c-mark : y.mark x.c.0 ≡ false
      c-mark = S.mark_old x.c.0 I.c_below c_far ∙ I.c_unmarked

      marked_on : (p : Side) → p.0 < k → p ≢ other s → p ≢ x.c → now p ≡ y.mark p.0
      marked_on p l a b = go (side_discrete p x.f) I.ends
        where
          go : Dec (p ≡ x.f) → Ends x visited → now p ≡ y.mark p.0
          go (no d) q = marked' p l d b a
          go (yes e) (inl q) = absurd (b (e ∙ q))
          go (yes e) (inr q) = rw e (now_f ∙ sym (mark_keep x.f.0 I.f_below q.1))

      on : Invariant k mate (record { mark = y.mark; bit = y.bit; f = other s; c = x.c }) now
      on =
          record {
            visited_mates = visited_mates';
            opposite = opposite';
            marked = marked_on;
            f_below = s_below;
            c_below = I.c_below;
            f_top = partner_top;
            c_top = ap (λ c. turn c x.c.1) (S.bit_old x.c.0 I.c_below c_far) ∙ I.c_top;
            c_low = I.c_low;
            unmarked_straight = unmarked_straight';
            f_new = now_other (other s) (other_unlike s) π≢f ∙ I.marked (other s) s_below π≢f ne ∙ s-unmarked;
            c_unmarked = c-mark;
            ends = inr (now_c, S.mark_new);
            last_first = λ j e m. I.last_first j e (unmark j (omega arith) m);
            c_lowest = ⊎_map (λ e. e) (λ h j l m. h j l (unmark j l m)) I.c_lowest;
            linked = ring_s;
            rule = rule';
            last_straight = last_straight';
          }

    -- the ring is closed, and the walk goes to the lowest unmarked pair
    module _ (e : other s ≡ x.c) where
      last_marked : (j : ℕ) → suc j ≡ k → y.mark j ≡ true
      last_marked j q = go (x.mark j) refl
        where
          go : (b : Bool) → x.mark j ≡ b → y.mark j ≡ true
          go true h = mark_keep j (omega arith) h
          go false h = ap y.mark (sym (I.last_first j q h) ∙ ap (λ (p : Side). p.0) (sym e)) ∙ S.mark_new

      fresh : (j : ℕ) → Lowest k y.mark j → Invariant k mate (record { mark = y.mark; bit = y.bit; f = (j, false); c = (j, false) }) now
      fresh j L =
          record {
            visited_mates = visited_mates';
            opposite = opposite';
            marked = λ p lp _ _. closed e p lp;
            f_below = L.below;
            c_below = L.below;
            f_top = top_if_straight;
            c_top = top_if_straight;
            c_low = refl;
            unmarked_straight = unmarked_straight';
            f_new = closed e (j, false) L.below ∙ L.unmarked;
            c_unmarked = L.unmarked;
            ends = inl refl;
            last_first = λ i q n. clash (last_marked i q) n;
            c_lowest = inr least;
            linked = stay;
            rule = rule';
            last_straight = last_straight';
          }
        where
          top_if_straight : enters y.bit (j, false) ≡ false
          top_if_straight = ap (λ c. turn c false) (unmarked_straight' j L.below L.unmarked)

          least : (i : ℕ) → i < k → y.mark i ≡ false → j ≤ i
          least i li n = elim (dec_lt i j) [ yes q ↦ clash (L.before i q) n | no q ↦ omega arith ]

      finished : ((j : ℕ) → j < k → y.mark j ≡ true) → Done k mate y
      finished h =
          record {
            all = h;
            opposite = λ p l. opposite' p l (closed e p l ∙ h p.0 l);
            rule = λ i l. rule' i l (h i l);
            last_straight = last_straight';
          }

    pub kept : Going k mate y ⊎ Done k mate y
    kept = go (side_discrete (other s) x.c) (lowest-or_none k y.mark)
      where
        renew : (a b : Side) → Invariant k mate (record { mark = y.mark; bit = y.bit; f = a; c = b }) now → (y.f ≡ a) × (y.c ≡ b) → Going k mate y
        renew a b J q = (now, subst₂ (λ u v. Invariant k mate (record { mark = y.mark; bit = y.bit; f = u; c = v }) now) (sym q.0) (sym q.1) J)

        go : Dec (other s ≡ x.c) → ((j : ℕ) → j < k → y.mark j ≡ true) ⊎ ((j : ℕ) × Lowest k y.mark j) → Going k mate y ⊎ Done k mate y
        go (no ne) d = inl (renew (other s) x.c (on ne) (S.go_on ne))
        go (yes e) (inl h) = inr (finished e h)
        go (yes e) (inr h) = inl (renew (h.0, false) (h.0, false) (fresh e h.0 h.1) (S.again e h.0 h.1))
