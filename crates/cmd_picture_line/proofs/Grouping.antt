-- Columns in groups.
-- Assumes nothing.
use mathlib.Core.Path.{◌≡◌, refl, sym, ap, ◌∙◌}
use mathlib.Core.List.{List, [], ◌∷◌, ◌++◌}
use Prim.Native.Nat.{ℕ, ◌+◌, ◌-◌, ◌≤◌}
use native.Mathlib.Omega.{arith}
use lib.ListN.{length, take, drop, length-append, length-drop, take-append-drop}
use lib.Seq.{drop-drop, take_all}
use Rattle.counts.specs.Counts.{W, up}
use Rattle.counts.proofs.Rule.{W_more}
use Rattle.answers.specs.Buffers.{Put}
use Rattle.answers.proofs.Putting.{put_then}
use Rattle.cmd_text.specs.Text.{text}
use Rattle.cmd_text.proofs.Lines.{room_third, put_three}
use Rattle.cmd_picture_line.specs.Line.{group, groups, top_at, bottom_at, output_at, grouped}

-- ---- one group

pub group_none : (cs : List ℕ) → length cs ≡ 0 → group cs ≡ []
unfolding group
group_none [] e = refl
group_none (c ∷ cs) e = absurd (omega arith)

pub group_some : (cs : List ℕ) → (length cs ≡ 0 → ⊥) → group cs ≡ cs ++ text " "
unfolding group
group_some [] n = absurd (n refl)
group_some (c ∷ cs) n = refl

group_long : (cs : List ℕ) → length (group cs) ≤ length cs + 1
unfolding group
group_long [] = omega arith
group_long (c ∷ cs) = omega (arith, length-append cs (text " "))

-- ---- four parts, one behind another

module _ (ys zs ws : List ℕ) {a : List ℕ} {at : ℕ} {xs : List ℕ} {r : ℕ} {b : List ℕ} (P : Put a at xs r b) (h : at + length (xs ++ (ys ++ (zs ++ ws))) ≤ length a) where
  module _ {q : ℕ} {c : List ℕ} (Q : Put b r ys q c) where
    pub four_third : q + length zs ≤ length c
    four_third = omega (arith, room_third ys (zs ++ ws) P h Q, length-append zs ws)

    module _ {t : ℕ} {d : List ℕ} (R : Put c q zs t d) where
      pub put_four : {u : ℕ} {e : List ℕ} → Put d t ws u e → Put a at (xs ++ (ys ++ (zs ++ ws))) u e
      put_four S = put_three ys (zs ++ ws) P h Q (put_then four_third R S)

-- ---- the network's groups

-- the output switches are the last
pub output_within : (n : ℕ) → 2 ≤ n → output_at n ≤ W n
output_within n h = omega (arith, W_more n h)

pub groups_are : (n : ℕ) (cs : List ℕ) {k top bottom : ℕ} → k ≡ up n → top ≡ W k → bottom ≡ W (n - k)
    → groups (k - 1) (k - 1 + top) (k - 1 + top + bottom) cs ≡ grouped n cs
unfolding grouped
groups_are n cs u e f = rw (e, f, u)

-- the columns from c on, as the code takes them
pub tail_is : (c : ℕ) (cs : List ℕ) → take (length cs - c) (drop c cs) ≡ drop c cs
tail_is c cs = take_all (length cs - c) (drop c cs) (omega (arith, length-drop c cs))

-- a part of a list and what is behind it
parts : (j : ℕ) (cs : List ℕ) → length (take j cs) + length (drop j cs) ≡ length cs
parts j cs = sym (length-append (take j cs) (drop j cs)) ∙ ap length (take-append-drop j cs)

parts_behind : (a b : ℕ) (cs : List ℕ) → a ≤ b → length (take (b - a) (drop a cs)) + length (drop b cs) ≡ length (drop a cs)
parts_behind a b cs h =
    let z : a + (b - a) ≡ b = omega arith in
    let d : drop (b - a) (drop a cs) ≡ drop b cs = drop-drop (b - a) a cs ∙ ap (λ m. drop m cs) z in
    rw (← d) (parts (b - a) (drop a cs))

groups_long : (a b c : ℕ) (cs : List ℕ) → a ≤ b → b ≤ c → length (groups a b c cs) ≤ length cs + 3
groups_long a b c cs h g =
    let p = take a cs in
    let q = take (b - a) (drop a cs) in
    let r = take (c - b) (drop b cs) in
    let whole : length (groups a b c cs) ≡ length (group p) + (length (group q) + (length (group r) + length (drop c cs))) =
    simp length-append
    in
    rw whole
    (omega (
      arith,
      group_long p,
      group_long q,
      group_long r,
      parts a cs,
      parts_behind a b cs h,
      parts_behind b c cs g,
    ))

pub grouped_long : (n : ℕ) (cs : List ℕ) → length (grouped n cs) ≤ length cs + 3
unfolding grouped
grouped_long n cs = groups_long (top_at n) (bottom_at n) (output_at n) cs (omega arith) (omega arith)
