-- k rounds from the beginning settle the input bits of a network of k pairs: any sequence of stages that `Round` links ends in
-- `Done`. Assumes nothing.
use mathlib.Core.Path.{◌≡◌, refl, sym, ap, ◌∙◌, subst₂}
use mathlib.Core.Logic.{◌⊎◌, inl, inr}
use mathlib.Core.Bool.{false}
use Prim.Native.Nat.{ℕ, zero, suc, ◌-◌, ◌≤◌, ◌<◌}
use native.Mathlib.Omega.{arith}
use Rattle.network.specs.Wiring.{Side}
use Rattle.canonical.proofs.Sides.{clash, turn}
use Rattle.canonical.proofs.Rings.{Chain, stay, Matching, Proper, Ruled}
use Rattle.canonical.proofs.Marks.{count, count_all, count_none, count_full}
use Rattle.canonical.proofs.Round.{Stage, Begun, Round, Good, Done}
use Rattle.canonical.proofs.Invariant.{Invariant, Going, counted, kept}

module _ (k : ℕ) (positive : 0 < k) (mate : Side → Side) (M : Matching k mate) where
  begin : (x : Stage) → Begun k x → Invariant k mate x (λ _. false)
  begin x B =
      subst₂ (λ u v. Invariant k mate (record { mark = x.mark; bit = x.bit; f = u; c = v }) (λ _. false))
      (sym B.at_f)
      (sym B.at_c)
      (record {
        visited_mates = λ p _ e. e;
        opposite = λ p _ e. clash e refl;
        marked = λ p l _ _. sym (B.no_mark p.0 l);
        f_below = omega arith;
        c_below = omega arith;
        f_top = top;
        c_top = top;
        c_low = refl;
        unmarked_straight = λ j l _. B.no_bit j l;
        f_new = refl;
        c_unmarked = B.no_mark (k - 1) (omega arith);
        ends = inl refl;
        last_first = λ j e _. omega arith;
        c_lowest = inl (omega arith);
        linked = stay;
        rule = λ i l e. clash e (B.no_mark i l);
        last_straight = λ j e. B.no_bit j (omega arith);
      })
    where
      top : turn (x.bit (k - 1)) false ≡ false
      top = ap (λ c. turn c false) (B.no_bit (k - 1) (omega arith))

  -- after n rounds
  pub record After (n : ℕ) (x : Stage) : Type 0 where
    pub marks : count k x.mark ≡ n
    pub stage : Going k mate x ⊎ Done k mate x

  pub after_none : (x : Stage) → Begun k x → After 0 x
  after_none x B = record { marks = count_none k x.mark B.no_mark; stage = inl ((λ _. false), begin x B) }

  -- fewer than k rounds are not all, so f is at one of the k pairs
  pub f_in : (n : ℕ) (x : Stage) → n < k → After n x → x.f.0 < k
  f_in n x l a = go a.stage
    where
      go : Going k mate x ⊎ Done k mate x → x.f.0 < k
      go (inl g) = g.1.f_below
      go (inr d) = absurd (omega (arith, a.marks, count_all k x.mark d.all))

  pub after_more : (n : ℕ) (x y : Stage) → n < k → After n x → Round k mate x y → After (suc n) y
  after_more n x y l a R = go a.stage
    where
      go : Going k mate x ⊎ Done k mate x → After (suc n) y
      go (inl g) =
          record {
            marks = counted k mate M x y g.0 g.1 R ∙ ap suc a.marks;
            stage = kept k mate M x y g.0 g.1 R;
          }
      go (inr d) = absurd (omega (arith, a.marks, count_all k x.mark d.all))

  pub after_all : (x : Stage) → After k x → Done k mate x
  after_all x a = go a.stage
    where
      go : Going k mate x ⊎ Done k mate x → Done k mate x
      go (inr d) = d
      go (inl g) = clash (count_full k x.mark a.marks x.c.0 g.1.c_below) g.1.c_unmarked

  module _ (x : ℕ → Stage) (B : Begun k (x 0)) (step : (n : ℕ) → n < k → After n (x n) → Round k mate (x n) (x (suc n))) where
    rounds : (n : ℕ) → n ≤ k → After n (x n)
    rounds zero l = after_none (x 0) B
    rounds (suc n) l =
        let a = rounds n (omega arith) in
        after_more n (x n) (x (suc n)) (omega arith) a (step n (omega arith) a)

    pub all_rounds : Done k mate (x k)
    all_rounds = after_all (x k) (rounds k (omega arith))

-- what is done is proper and obeys the rule
pub done_proper : (k : ℕ) (mate : Side → Side) (x : Stage) → Done k mate x → Proper k mate x.bit
unfolding Proper
done_proper k mate x d = d.opposite

pub done_ruled : (k : ℕ) (mate : Side → Side) (x : Stage) → Done k mate x → Ruled k mate x.bit
unfolding Good
done_ruled k mate x d =
    record {
      last_straight = d.last_straight;
      lowest_straight = λ i l lowest apart. go i l lowest apart (d.rule i l);
    }
  where
    go :
        (i : ℕ)
        → i < k
        → ((j : ℕ) → j < k → Chain mate i j → i ≤ j)
        → ((j : ℕ) → suc j ≡ k → ¬ (Chain mate i j))
        → Good k mate x.bit i
        → x.bit i ≡ false
    go i l lowest apart (inl e) = e
    go i l lowest apart (inr (inl r)) = absurd (apart r.0 r.1 r.2)
    go i l lowest apart (inr (inr r)) = absurd (omega (arith, lowest r.0 (omega arith) r.2))
