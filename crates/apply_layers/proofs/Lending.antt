-- What a network's run lends on: to its layers all that it was lent, to its halves a part of the blocks.
-- Assumes nothing.
use mathlib.Core.Path.{◌≡◌, refl, sym, ap, ◌∙◌}
use mathlib.Core.Bool.{true, false}
use mathlib.Core.List.{List, ◌++◌}
use Prim.Native.Nat.{ℕ, ◌+◌, ◌-◌, ◌*◌, ◌^◌, ◌≤◌, ◌<◌}
use native.Mathlib.Nat.{mul-le-mul_right}
use native.Mathlib.Omega.{arith}
use lib.ListN.{length, take, drop}
use borrow.Rule.Slice.PartMut.{put_mid}
use Rattle.counts.specs.Counts.{W, up}
use Rattle.counts.proofs.Rule.{W_more}
use Rattle.network.specs.Network.{down}
use Rattle.network.specs.Log.{Entry, entry_words}
use Rattle.network.specs.Shift.{shifted}
use Rattle.network.proofs.Shape.{sized}
use Rattle.network.proofs.RunBack.{Below, below-switches}
use Rattle.wirings.specs.declared.Net.{Net}
use Rattle.wirings.specs.Nets.{side_of, Inside, Spaced, IsHalf}
use Rattle.wirings.proofs.Halves.{lawful, is_top, is_bottom, fewer, half_real, half_inside}
use Rattle.apply_layers.specs.Ran.{blocks_in, Lent, Pairs, Ran, switches_of}
use Rattle.apply_layers.proofs.Runs.{same_many, many}
use Rattle.apply_layers.proofs.Parts.{Room, front_ran, behind_ran}
use Rattle.apply_layers.proofs.Network.{Same, half-start, half-apart}

pub same : (b l : List ℕ) → Same b l b l
same b l = record { blocks = refl; log = refl }

pub same_then : {b l b1 l1 b2 l2 : List ℕ} → Same b l b1 l1 → Same b1 l1 b2 l2 → Same b l b2 l2
same_then k1 k2 = record { blocks = k2.blocks ∙ k1.blocks; log = k2.log ∙ k1.log }

-- how many blocks it is from the top's first to behind its last
abbrev pub span : ℕ → ℕ → ℕ
span m step = (up m - 1) * step + 1

-- the numbers of a network of two places or more
pub record Sizes (w m step gap e : ℕ) (b bits log : List ℕ) : Type 0 where
  pub two : 2 ≤ m
  pub few : m ≤ 1024
  pub count : W m ≡ (up m - 1) + W (up m) + W (down m) + down m
  pub enough : e + W m ≤ length bits
  pub room : entry_words * (e + W m) ≤ length log
  pub short : length bits < 2 ^ 64
  pub near : span m step ≤ 1024
  pub top : Room w (span m step) b
  pub bottom : Room w gap b

-- no switch of a network is on a block that it was not lent
pub below_all : {n : ℕ} (net : Net) (p : ℕ) → Inside (net.start + n) net → Below n (switches_of net p)
below_all {n} net p I =
    below-switches (lawful net.topology) (sized net.size) n (λ i. i * net.apart) p (λ i h. omega (arith, I.lies i h))

module _ {w e : ℕ} {net : Net} {b bits l : List ℕ} (lent : Lent w net.start (W net.size) e b bits l)
    (I : Inside (net.start + blocks_in w b) net) where
  pub inside_all : Inside 1024 net
  inside_all = record { apart = I.apart; lies = λ i h. omega (arith, I.lies i h, lent.places) }

  module _ {step gap : ℕ} (S : Spaced net step gap) (two : 2 ≤ net.size) where
    -- a pair's places, counted from the network's first
    upper_in : (i : ℕ) → i < down net.size → gap + i * step < blocks_in w b
    upper_in i h = omega (arith, S.upper i, I.lies (side_of net (i, true)) (half_real (is_bottom net step gap S) i h))

    lower_in : (i : ℕ) → i < up net.size → i * step < blocks_in w b
    lower_in i h = omega (arith, S.lower i, I.lies (side_of net (i, false)) (half_real (is_top net step gap S) i h))

    pub sizes : length bits < 2 ^ 64 → Sizes w net.size step gap e b bits l
    sizes short =
        let last = lower_in (up net.size - 1) (omega arith) in
        record {
          two = two;
          few = fewer inside_all (omega arith);
          count = W_more net.size two ∙ omega arith;
          enough = lent.enough;
          room = lent.room;
          short = short;
          near = omega (arith, last, lent.places);
          top = record { whole = lent.whole; inside = omega (arith, last) };
          bottom = record { whole = lent.whole; inside = omega (arith, upper_in 0 (omega arith)) };
        }

    top_start : {top : Net} → IsHalf net false top → top.start ≡ net.start
    top_start T = half-start S T ∙ omega arith

    -- the top inside its part
    pub top_inside : {top : Net} → IsHalf net false top → Inside (top.start + span net.size step) top
    top_inside {top} T =
        record {
          apart = T.apart;
          lies = λ i h.
              let near : i * step ≤ (up net.size - 1) * step = mul-le-mul_right step (omega (arith, T.size)) in
              omega (arith, ap (λ n. i * n) (half-apart S T));
        }

    module _ (e' : ℕ) {b' l' : List ℕ} (k : Same b l b' l') where
      same_blocks : blocks_in w b' ≡ blocks_in w b
      same_blocks = same_many w b b' k.blocks

      -- the blocks of so many places from o on
      lend : (o n count : ℕ) (part : List ℕ) → length part ≡ n * w → o + n ≤ net.start + blocks_in w b → e' + count ≤ e + W net.size
          → Lent w o count e' part bits l'
      lend o n count part long places h =
          let is = many n w part lent.wide long in
          record {
            places = rw is (omega (arith, lent.places));
            wide = lent.wide;
            narrow = lent.narrow;
            whole = rw is (sym long);
            enough = omega (arith, lent.enough);
            room = omega (arith, lent.room, k.log);
            short = lent.short;
            settings = lent.settings;
          }

      -- to a layer of c switches
      layered : (step' c : ℕ) → step' ≤ blocks_in w b → ((i : ℕ) → i < c → i * step' + gap < blocks_in w b) → e' + c ≤ e + W net.size
          → Lent w net.start c e' b' bits l' × Pairs (blocks_in w b') step' gap c
      layered step' c pace lies h = (
        lend net.start (blocks_in w b) c b' (k.blocks ∙ sym lent.whole) (omega arith) h,
        rw same_blocks (record { pace = pace; apart = S.beside; near = omega (arith, upper_in 0 (omega arith)); lies = lies }),
      )

      pub to-layer : 2 < net.size → (c : ℕ) → c ≤ down net.size → e' + c ≤ e + W net.size
          → Lent w net.start c e' b' bits l' × Pairs (blocks_in w b') step gap c
      to-layer more c few h =
          layered step c (omega (arith, lower_in 1 (omega arith))) (λ i l. omega (arith, upper_in i (omega arith))) h

      -- one switch takes no step
      pub to_pair : e' + 1 ≤ e + W net.size → Lent w net.start 1 e' b' bits l' × Pairs (blocks_in w b') 1 gap 1
      to_pair h = let upper = upper_in 0 (omega arith) in layered 1 1 (omega arith) (λ i l. omega arith) h

      -- to the halves
      pub to_top : {top : Net} → IsHalf net false top → (part : List ℕ) → length part ≡ span net.size step * w
          → e' + W (up net.size) ≤ e + W net.size
          → Lent w top.start (W top.size) e' part bits l' × Inside (top.start + blocks_in w part) top
      to_top {top} T part long h =
          let n = span net.size step in
          let last = lower_in (up net.size - 1) (omega arith) in (
            lend top.start n (W top.size) part long (omega (arith, half-start S T, last)) (rw T.size h),
            rw (many n w part lent.wide long) (top_inside T),
          )

      pub to_bottom : {bottom : Net} → IsHalf net true bottom → (part : List ℕ) → length part ≡ (blocks_in w b' - gap) * w
          → e' + W (down net.size) ≤ e + W net.size
          → Lent w bottom.start (W bottom.size) e' part bits l' × Inside (bottom.start + blocks_in w part) bottom
      to_bottom {bottom} U part long' h =
          let n = blocks_in w b - gap in
          let long = rw same_blocks at long' in
          let ends : bottom.start + n ≡ net.start + blocks_in w b = omega (arith, half-start S U, upper_in 0 (omega arith)) in (
            lend bottom.start n (W bottom.size) part long (omega arith) (rw U.size h),
            rw (many n w part lent.wide long, ends) (half_inside U I),
          )

    -- what ran on a half's part has run on all
    module _ {es : List Entry} {e' : ℕ} {b' l' l'' : List ℕ} where
      pub top_ran : {top : Net} → IsHalf net false top → Room w (span net.size step) b' → (x : List ℕ)
          → length x ≡ length (take (span net.size step * w) b') → Below (span net.size step) es
          → Ran w bits es top.start e' (take (span net.size step * w) b') l' x l''
          → Ran w bits es net.start e' b' l' (x ++ drop (span net.size step * w) b') l''
      top_ran T room x kept below r = front_ran room lent.wide bits x kept below (rw (top_start T) at r)

      pub bottom_ran : {bottom : Net} → IsHalf net true bottom → Room w gap b' → (y : List ℕ)
          → Ran w bits es bottom.start e' (take (length b' - gap * w) (drop (gap * w) b')) l' y l''
          → Ran w bits (shifted gap es) net.start e' b' l' (put_mid (gap * w) (length b' - gap * w) b' y) l''
      bottom_ran U room y r = behind_ran room lent.wide bits y (rw (half-start S U) at r)
