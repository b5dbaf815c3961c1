-- The parts of the blocks that are lent for the halves of a network: the blocks before a place, and those from a place on. Each comes
-- back between the others, and what ran on it has run on all.
-- Assumes nothing.
use mathlib.Core.Path.{◌≡◌, sym, ap, ◌∙◌}
use mathlib.Core.List.{List, ◌++◌, append-nil}
use Prim.Native.Nat.{ℕ, ◌+◌, ◌-◌, ◌*◌, ◌≤◌}
use native.Mathlib.Nat.{add-mul, mul-le-mul_right}
use native.Mathlib.Omega.{arith}
use lib.ListN.{length, take, drop, length-append, length-drop, take-append-drop, drop_of_length-le}
use lib.Seq.{length-take-le}
use borrow.Author.Rules.{part_to_end}
use borrow.Rule.Slice.PartMut.{put_mid}
use Rattle.network.specs.Log.{Entry}
use Rattle.network.specs.Shift.{shifted}
use Rattle.network.proofs.RunBack.{Below}
use Rattle.apply_layers.specs.Ran.{blocks_in, Ran}
use Rattle.apply_layers.proofs.Runs.{same_many, ran_front, ran_behind}

-- whole blocks, k at least
pub record Room (w k : ℕ) (b : List ℕ) : Type 0 where
  pub whole : blocks_in w b * w ≡ length b
  pub inside : k ≤ blocks_in w b

pub room_after : {w k : ℕ} {b : List ℕ} → Room w k b → (b' : List ℕ) → length b' ≡ length b → Room w k b'
room_after {w} {k} {b} room b' e =
    let n = same_many w b b' e in
    record { whole = rw n (room.whole ∙ sym e); inside = rw n room.inside }

module _ {w k : ℕ} {b : List ℕ} (room : Room w k b) where
  pub fits : k * w ≤ length b
  fits = let x : k * w ≤ blocks_in w b * w = mul-le-mul_right w room.inside in omega (arith, room.whole)

  pub front_long : length (take (k * w) b) ≡ k * w
  front_long = length-take-le (k * w) b fits

  rest_long : length (drop (k * w) b) ≡ (blocks_in w b - k) * w
  rest_long =
      let all : k + (blocks_in w b - k) ≡ blocks_in w b = omega (arith, room.inside) in
      rw length-drop (omega (arith, add-mul k (blocks_in w b - k) w, ap (λ n. n * w) all, room.whole))

  -- what is lent from the place k on is all behind it
  pub behind-lent : take (length b - k * w) (drop (k * w) b) ≡ drop (k * w) b
  behind-lent = part_to_end b (k * w)

  pub behind_long : length (take (length b - k * w) (drop (k * w) b)) ≡ (blocks_in w b - k) * w
  behind_long = ap length behind-lent ∙ rest_long

  back : (y : List ℕ) → put_mid (k * w) (length b - k * w) b y ≡ take (k * w) b ++ y
  back y =
      let n : length (drop (k * w) b) ≤ length b - k * w = rw length-drop (omega arith) in
      rw (drop_of_length-le (drop (k * w) b) n, append-nil)

  pub front_kept : (x : List ℕ) → length x ≡ length (take (k * w) b) → length (x ++ drop (k * w) b) ≡ length b
  front_kept x e = rw (length-append, length-drop) (omega (arith, e, front_long, fits))

  pub behind_kept : (y : List ℕ) → length y ≡ length (take (length b - k * w) (drop (k * w) b))
      → length (put_mid (k * w) (length b - k * w) b y) ≡ length b
  behind_kept y e = rw (back y, length-append) (omega (arith, e, ap length behind-lent, length-drop (k * w) b, front_long, fits))

  module _ (some : 1 ≤ w) (bits : List ℕ) {es : List Entry} {o e : ℕ} {l l' : List ℕ} where
    pub front_ran : (x : List ℕ) → length x ≡ length (take (k * w) b) → Below k es → Ran w bits es o e (take (k * w) b) l x l'
        → Ran w bits es o e b l (x ++ drop (k * w) b) l'
    front_ran x kept below r =
        rw (take-append-drop (k * w) b) at
        (ran_front w k (blocks_in w b - k) some bits (take (k * w) b) x (drop (k * w) b) front_long (kept ∙ front_long) rest_long below r)

    pub behind_ran : (y : List ℕ) → Ran w bits es (o + k) e (take (length b - k * w) (drop (k * w) b)) l y l'
        → Ran w bits (shifted k es) o e b l (put_mid (k * w) (length b - k * w) b y) l'
    behind_ran y r =
        let part = rw behind-lent at r in
        let all = ran_behind w k (blocks_in w b - k) some bits (take (k * w) b) (drop (k * w) b) y front_long rest_long part in
        rw (back y) (rw (take-append-drop (k * w) b) at all)
