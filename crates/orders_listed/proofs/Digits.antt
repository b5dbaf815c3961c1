-- A digit of r without a division, and the places that make way: what the code's sums by `at_least` come to.
-- Assumes nothing.
use mathlib.Core.Path.{◌≡◌, refl, sym, ap, ◌∙◌}
use mathlib.Core.Bool.{Bool, true, false, not}
use mathlib.Core.List.{List, map}
use Prim.Native.Nat.{ℕ, zero, suc, ◌+◌, ◌-◌, ◌*◌, ◌/◌, ◌≤◌, ◌<◌}
use native.Mathlib.Nat.{mul-zero, mul-le-mul, le-div_iff_mul-le, div-lt_iff_lt-mul}
use native.Mathlib.Omega.{arith}
use lib.Dec.{ltb, eqb}
use lib.ListN.{length, get_or, take, drop, set, length-map}
use lib.Seq.{length-take-le, take_all, get_or-drop}
use borrow.Author.Tests.{ltb-true, ltb-false, eqb-true}
use Rattle.answers.specs.Questions.{first_bad}
use Rattle.answers.specs.Buffers.{overlay}
use Rattle.answers.proofs.Questions.{all_good}
use Rattle.answers.proofs.Buffers.{overlay_whole, overlay_beyond}
use Rattle.answers.proofs.Putting.{Over, over_more, over-ends}
use Rattle.counts.specs.Table.{StandsAt}
use Rattle.steps.specs.Steps.{digit}
use Rattle.control_sweeps.specs.Tables.{Below}
use Rattle.orders_listed.specs.Ranks.{factorial, past}
use Rattle.orders_listed.proofs.OrderAt.{factorial_small, get_d_map}

-- ---- the table

-- whether its first seven numbers are those of the orders: one test, which antt computes
abbrev pub tested : List ℕ → ℕ
tested table = first_bad (λ i. eqb (get_or table i 0) (factorial i)) 7

pub orders_stand : {table : List ℕ} {n r : ℕ} → StandsAt table n r → tested table ≡ 7 → n ≤ 6 → (r ≡ factorial n) × (r ≤ 720)
orders_stand {table} {n} {r} s t h =
    let stands = all_good (λ i. eqb (get_or table i 0) (factorial i)) 7 t n (omega arith) in
    let e : r ≡ factorial n = s.is ∙ eqb-true (get_or table n 0) (factorial n) stands in
    (e, omega (arith, e, factorial_small n h))

-- ---- the digit

-- of the multiples f, 2 × f, .. below i × f, how many are at most r: the digit, or i − 1 where it is more
abbrev pub reached : (r f i : ℕ) → ℕ
reached r f i = r / f - (r / f - (i - 1))

pub multiple_small : (i f : ℕ) → i ≤ 6 → f ≤ 720 → i * f ≤ 4320
multiple_small i f h g = mul-le-mul h g

-- a factor of a product that is above something
pub some_factor : (r n f : ℕ) → r < n * f → 0 < f
some_factor r n zero h = absurd (omega (arith, mul-zero n))
some_factor r n (suc f) h = omega arith

module _ (r f i : ℕ) (some : 0 < f) (from : 1 ≤ i) where
  pub reached_more : reached r f i + digit (not (ltb r (i * f))) ≡ reached r f (i + 1)
  reached_more = go (ltb r (i * f)) refl
    where
      go : (b : Bool) → ltb r (i * f) ≡ b → reached r f i + digit (not b) ≡ reached r f (i + 1)
      go true t = let l : r / f < i = (div-lt_iff_lt-mul some).1 (ltb-true r (i * f) t) in omega (arith, l)
      go false t = let l : i ≤ r / f = (le-div_iff_mul-le some).1 (ltb-false r (i * f) t) in omega (arith, l)

  pub reached_all : (n : ℕ) → n ≤ i → r < n * f → reached r f i ≡ r / f
  reached_all n h g = let l : r / f < n = (div-lt_iff_lt-mul some).1 g in omega (arith, l)

-- ---- the places

pub moved_up : (d x : ℕ) → x + digit (not (ltb x d)) ≡ past d x
moved_up d x = go (ltb x d) refl
  where
    go : (b : Bool) → ltb x d ≡ b → x + digit (not b) ≡ past d x
    go true t = rw (past, t) (omega arith)
    go false t = rw (past, t) (omega arith)

module _ (d : ℕ) (before : List ℕ) where
  -- an entry that is still to come
  pub way_ahead : {out : List ℕ} {i : ℕ} → i < length before → Over (map (past d) before) before out (length before) i
      → get_or out i 0 ≡ get_or before i 0
  way_ahead {out} {i} h R =
      let taken = take i (map (past d) before) in
      let t : length taken ≡ i = length-take-le i (map (past d) before) (omega (arith, length-map before (past d))) in
      let rest : drop i out ≡ drop i before =
      ap (λ k. drop k out) (sym t) ∙ ap (drop (length taken)) R.buffer ∙ overlay_beyond before taken ∙ ap (λ k. drop k before) t
      in
      let z : i + 0 ≡ i = omega arith in
      rw z at (sym (get_or-drop i out 0 0) ∙ ap (λ xs. get_or xs 0 0) rest ∙ get_or-drop i before 0 0)

  pub entry_small : {out : List ℕ} {i : ℕ} → Below 1024 before → i < length before
      → Over (map (past d) before) before out (length before) i → get_or out i 0 < 1024
  unfolding Below
  entry_small {out} {i} B h R = omega (arith, way_ahead h R, B i)

  -- one entry more has made way
  pub way_more : {out : List ℕ} {i x : ℕ} → i < length before → x ≡ get_or out i 0 + digit (not (ltb (get_or out i 0) d))
      → Over (map (past d) before) before out (length before) i
      → Over (map (past d) before) before (set out i x) (length before) (i + 1)
  way_more {out} {i} {x} h e R =
      let is : x ≡ past d (get_or before i 0) = e ∙ moved_up d (get_or out i 0) ∙ ap (past d) (way_ahead h R) in
      over_more (map (past d) before) before out (length before) i x h (omega (arith, length-map before (past d))) (omega arith)
      (is ∙ sym (get_d_map (past d) before i h)) R

  pub way_made : {out : List ℕ} {i : ℕ} → length before ≤ i → Over (map (past d) before) before out (length before) i
      → out ≡ map (past d) before
  way_made {out} {i} h R =
      let l = length-map before (past d) in
      over-ends (map (past d) before) before out (length before) i h R
      ∙ ap (overlay before 0) (take_all (length before) (map (past d) before) (omega (arith, l)))
      ∙ overlay_whole before (map (past d) before) l
