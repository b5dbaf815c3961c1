-- From what the sweeps left to the step of the definition.
-- Assumes nothing.
use mathlib.Core.Path.{◌≡◌, refl, sym, ◌∙◌}
use mathlib.Core.Bool.{Bool, true, false, not, cond}
use mathlib.Core.List.{List}
use Prim.Native.Nat.{ℕ, ◌+◌, ◌-◌, ◌*◌, ◌≤◌, ◌<◌}
use native.Mathlib.Omega.{arith}
use native.Mathlib.Decide.{dec_lt}
use lib.Bits.{bit_or}
use lib.Dec.{ltb, eqb}
use lib.ListN.{length, get_or}
use borrow.Author.Tests.{lt-ltb, le-ltb}
use Rattle.answers.proofs.Questions.{bad_within}
use Rattle.counts.specs.Counts.{up}
use Rattle.network.specs.Wiring.{Wiring}
use Rattle.steps.specs.Sweeps.{look, seek, store, lowest_unmarked, none_marked}
use Rattle.steps.specs.State.{State}
use Rattle.steps.specs.Steps.{other, digit, step1, step2, step3}
use Rattle.wirings.specs.declared.Topology.{Topology}
use Rattle.wirings.specs.Nets.{wiring_of}
use Rattle.select.proofs.Numbers.{digit_is}
use Rattle.control_sides.proofs.Bounds.{other-below, first_below}
use Rattle.control_sweeps.proofs.Bounds.{pick-below}
use Rattle.control_rows.specs.Rows.{Gathered}
use Rattle.control_rows.proofs.Rows.{look_gathered, seek_gathered}
use Rattle.control_pairs.specs.Pairs.{mark_in, marks_in, bits_in, none_in, Numbered, Settled}
use Rattle.control_pairs.proofs.Held.{low_held, settled_marks, settled_bits, settled_none}
use Rattle.control_walk.specs.declared.Walk.{Walk}
use Rattle.control_walk.specs.Walks.{state, lying}
use Rattle.control_rings.specs.Turns.{turned, Small}

-- both factors are bits: the product says that both are 1
pub again_is : (a b : Bool) → digit a * digit b ≡ digit (cond a b false)
again_is true true = refl
again_is true false = refl
again_is false true = refl
again_is false false = refl

pub turned_is : (wiring : Wiring) (k low any : ℕ) (w : Walk) (f e a next p q : ℕ) → f ≡ other wiring k w.s → e ≡ digit (eqb f w.c)
    → a ≡ digit (ltb low k) → next ≡ wiring.enc k (low, false) → p ≡ cond (eqb (e * a) 1) next f → q ≡ cond (eqb (e * a) 1) next w.c
    → ◌≡◌ {A = Walk} (record { f = p; c = q; g = w.g; s = w.s; any = any; e = w.e + 1; b = w.b }) (turned wiring k low any w)
turned_is wiring k low any w f e a next p q ef ee ea en ep eq =
    rw (ep, eq, ee, ea, again_is (eqb f w.c) (ltb low k), digit_is (cond (eqb f w.c) (ltb low k) false), en, ef)

pub turned_small : (t : Topology) (k low any : ℕ) (w : Walk) → k ≤ 1024 → low ≤ 1024 → w.s < 32768 → w.c < 32768
    → ((turned (wiring_of t) k low any w).f < 32768) × ((turned (wiring_of t) k low any w).c < 32768)
turned_small t k low any w h l s c =
    let again = cond (eqb (other (wiring_of t) k w.s) w.c) (ltb low k) false in
    let next = first_below t k low l in
    (pick-below again next (other-below t k w.s h s), pick-below again next c)

pub low_within : {k p bit low : ℕ} {before after : List ℕ} → Settled k p bit before after low → low ≤ k
low_within {k} {p} {bit} {low} {before} {after} S = omega (arith, S.lowest, bad_within (mark_in after) k)

-- the value at a place of a row of small values is small
pub look_small : (m : ℕ) (row : List ℕ) (p : ℕ) → Small m row → p < 32768 → look (λ i. i) m row p < 32768
unfolding look Small
look_small m row p h l = go (dec_lt p m)
  where
    go : Dec (p < m) → cond (ltb p m) (get_or row p 0) p < 32768
    go (yes x) = rw (lt-ltb p m x) (h p x)
    go (no x) = rw (le-ltb p m (omega arith)) l

-- the bit is 1 where the side is 0
pub turned_round : (a : ℕ) (t : Bool) → a ≡ digit t → (1 - a ≡ digit (not t)) × (1 - a < 2)
turned_round a true e = rw e (refl, omega arith)
turned_round a false e = rw e (refl, omega arith)

-- a pair is marked where one was, or the pair settled is one of the network's
pub any_after : {k p bit low : ℕ} {before after : List ℕ} (any inside : ℕ) → Settled k p bit before after low → k ≤ 512
    → 512 ≤ length before → bit < 2 → Numbered k before → any ≡ digit (not (none_in k before)) → inside ≡ digit (ltb p k)
    → bit_or any inside ≡ digit (not (none_in k after))
any_after {k} {p} {bit} {low} {before} {after} any inside S few room b N ea ei =
    rw (ea, ei, settled_none S few room b N) (go (none_in k before) (ltb p k))
  where
    go : (n t : Bool) → bit_or (digit (not n)) (digit t) ≡ digit (not (cond t false n))
    go true true = refl
    go true false = refl
    go false true = refl
    go false false = refl

module _ (wiring : Wiring) (place : ℕ → ℕ) (m bit : ℕ) (vs ts : List ℕ) (w : Walk) where
  pub step1_is : (row ms bs : List ℕ) (last f c g : ℕ) → Gathered place m vs row → w.any ≡ digit (not (none_marked ms (up m)))
      → last ≡ wiring.enc (up m) (up m - 1, false) → f ≡ cond (eqb w.any 1) w.f last → c ≡ cond (eqb w.any 1) w.c last
      → g ≡ look (λ i. i) m row f
      → state vs ts ms bs (record { f = f; c = c; g = g; s = w.s; any = w.any; e = w.e + 1; b = w.b })
      ≡ step1 wiring (lying place m bit) (state vs ts ms bs w)
  unfolding step1
  step1_is row ms bs last f c g G ea el ef ec eg =
      rw (eg, look_gathered place m vs row f G, ec, ef, ea, digit_is (not (none_marked ms (up m))), el) (go (none_marked ms (up m)))
    where
      start : ℕ
      start = wiring.enc (up m) (up m - 1, false)

      numbers : ℕ → ℕ → State
      numbers f c = record { values = vs; trails = ts; marks = ms; bits = bs; f = f; c = c; g = look place m vs f; s = w.s }

      go : (n : Bool)
          → numbers (cond (not n) w.f start) (cond (not n) w.c start) ≡ numbers (cond n start w.f) (cond n start w.c)
      go true = refl
      go false = refl

  pub step2_is : (row ms bs : List ℕ) (a s : ℕ) → Gathered place m vs row → a ≡ other wiring (up m) w.g
      → s ≡ seek (λ i. i) m row a
      → state vs ts ms bs (record { f = w.f; c = w.c; g = w.g; s = s; any = w.any; e = w.e + 1; b = w.b })
      ≡ step2 wiring (lying place m bit) (state vs ts ms bs w)
  unfolding step2
  step2_is row ms bs a s G ea es = rw (es, seek_gathered place m vs row a G, ea)

  pub step3_is : (r : Walk) (p a low any : ℕ) (before after ms bs : List ℕ) → up m ≤ 512 → 512 ≤ length before → a < 2
      → Numbered (up m) before → up m ≤ length ms → p ≡ (wiring.dec (up m) w.s).0 → a ≡ digit (not (wiring.dec (up m) w.s).1)
      → Settled (up m) p a before after low → r ≡ turned wiring (up m) low any w
      → state vs ts (marks_in (up m) after ms) (bits_in bit (up m - 1) after bs) r
      ≡ step3 wiring (lying place m bit) (state vs ts (marks_in (up m) before ms) (bits_in bit (up m - 1) before bs) w)
  unfolding step3
  step3_is r p a low any before after ms bs few room b N long ep ea S er =
      let k : ℕ = up m in
      let marks : marks_in k after ms ≡ store (λ i. i) k p 1 (marks_in k before ms) = settled_marks S few room b N ms in
      let bits : bits_in bit (k - 1) after bs ≡ store (λ i. bit + i) (k - 1) p a (bits_in bit (k - 1) before bs) =
      settled_bits S few room b N bit (k - 1) bs (omega arith)
      in
      let lowest : low ≡ lowest_unmarked (marks_in k after ms) k = S.lowest ∙ sym (low_held k after ms long) in
      rw (er, bits, lowest, marks, ea, ep)
