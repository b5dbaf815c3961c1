-- The entries of a layer's switches as numbers: evenly apart.
-- Assumes nothing.
use mathlib.Core.Path.{◌≡◌, ◌∙◌}
use mathlib.Core.List.{List}
use lib.ListN.{get_or, take, drop}
use Rattle.std.proofs.lemmas.List.{get_or-take, get_or-drop}
use Prim.Native.Nat.{ℕ, suc, ◌+◌, ◌-◌, ◌*◌, ◌^◌, ◌≤◌, ◌<◌}
use native.Mathlib.Nat.{suc-mul}
use native.Mathlib.Numerals.{add-one}
use native.Mathlib.Omega.{arith}
use Rattle.entry_log.specs.Packed.{packed}

-- the entry of switch i of a layer, whose bits begin at b
abbrev pub at_switch : (step gap o b i : ℕ) → ℕ
at_switch step gap o b i = packed 7 (o + i * step) (o + (i * step + gap)) (b + i)

-- how far it is from one to the next
abbrev pub apart : ℕ → ℕ
apart step = packed 0 step step 1

-- a bit of those from `at` on
pub bit-under : (at k i : ℕ) (bits : List ℕ) → i < k → get_or (take k (drop at bits)) i 0 ≡ get_or bits (at + i) 0
bit-under at k i bits h = get_or-take k (drop at bits) i 0 h ∙ get_or-drop at bits i 0

module _ (step gap o b : ℕ) where
  pub switch-first : (x : ℕ) → x ≡ packed 7 o (o + gap) b → x ≡ at_switch step gap o b 0
  switch-first x e = omega arith

  pub switch_next : (i n x : ℕ) → n ≡ apart step → x ≡ at_switch step gap o b i → x + n ≡ at_switch step gap o b (i + 1)
  switch_next i n x en ex = rw (add-one i) (omega (arith, suc-mul i step))

  pub switch-before : (i j n x : ℕ) → i ≡ suc j → n ≡ apart step → x ≡ at_switch step gap o b i → x - n ≡ at_switch step gap o b j
  switch-before i j n x e en ex = let x' = rw e at ex in omega (arith, suc-mul j step, x')

  pub switch-above : (i j n x : ℕ) → i ≡ suc j → n ≡ apart step → x ≡ at_switch step gap o b i → n ≤ x
  switch-above i j n x e en ex = let x' = rw e at ex in omega (arith, suc-mul j step, x')

  -- none leaves the machine's numbers
  pub switch_small : (i n x : ℕ) → n ≡ apart step → x ≡ at_switch step gap o b i → o + (i * step + gap) ≤ 4096 → step ≤ 1024 → b + i ≤ 9217
      → x + n < 2 ^ 64
  switch_small i n x en ex hp hs hb = omega arith
