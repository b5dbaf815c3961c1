-- A network of two places or more whose two distances are computed: what its run lends to its layers and its halves, and what it has
-- back from them.
-- Assumes nothing.
use mathlib.Core.Path.{◌≡◌, refl}
use mathlib.Core.Bool.{true, false}
use mathlib.Core.List.{List, ◌++◌}
use Prim.Native.Nat.{ℕ, ◌+◌, ◌-◌, ◌*◌, ◌≤◌, ◌<◌}
use native.Mathlib.Omega.{arith}
use lib.ListN.{length, take, drop}
use borrow.Rule.Slice.PartMut.{put_mid}
use Rattle.counts.specs.Counts.{W, up}
use Rattle.network.specs.Network.{down}
use Rattle.network.specs.Log.{Entry}
use Rattle.network.specs.Shift.{shifted}
use Rattle.network.proofs.RunBack.{Below}
use Rattle.wirings.specs.declared.Topology.{Topology}
use Rattle.wirings.specs.declared.Net.{Net}
use Rattle.wirings.specs.Nets.{net_of, step_of, gap_of, Inside, Spaced, IsHalf}
use Rattle.wirings.proofs.Halves.{spaced_as, is_top, is_bottom, bottom_starts}
use Rattle.apply_layers.specs.Ran.{blocks_in, Lent, Pairs, Ran, switches_of}
use Rattle.apply_layers.proofs.Network.{Same, W_two}
use Rattle.apply_layers.proofs.Parts.{Room, room_after, fits, front_long, behind_long, front_kept, behind_kept}
use Rattle.apply_layers.proofs.Lending.{span, Sizes, sizes, inside_all, to-layer, to_pair, to_top, to_bottom}
use Rattle.apply_layers.proofs.Lending.{below_all, top_inside, top_ran, bottom_ran}

-- what is lent for the network, its distances, and its sizes by them
pub record Halved (w o m apart step gap e : ℕ) (t : Topology) (b bits l : List ℕ) : Type 0 where
  pub lent : Lent w o (W m) e b bits l
  pub inside : Inside (o + blocks_in w b) (net_of t o m apart)
  pub spaced : Spaced (net_of t o m apart) step gap
  pub sizes : Sizes w m step gap e b bits l

pub halved : {w o m apart step gap e : ℕ} {t : Topology} {b bits l : List ℕ}
    → Lent w o (W m) e b bits l × Inside (o + blocks_in w b) (net_of t o m apart)
    → 2 ≤ m → step ≡ step_of t apart → gap ≡ gap_of t (up m) apart
    → Halved w o m apart step gap e t b bits l
halved {o = o} {m = m} {apart = apart} {step = step} {gap = gap} {t = t} p two paces leads =
    let S = spaced_as (net_of t o m apart) step gap two p.1.apart paces leads in
    record { lent = p.0; inside = p.1; spaced = S; sizes = sizes p.0 p.1 S two (omega (arith, p.0.short)) }

pub lengths : {b l b' l' : List ℕ} → length b' ≡ length b → length l' ≡ length l → Same b l b' l'
lengths blocks log = record { blocks = blocks; log = log }

module _ {w o m apart step gap e : ℕ} {t : Topology} {b bits l : List ℕ} (H : Halved w o m apart step gap e t b bits l) where
  abbrev net : Net
  net = net_of t o m apart

  abbrev top : Net
  top = net_of t o (up m) step

  abbrev bottom : Net
  bottom = net_of t (o + gap) (down m) step

  pub halved_top : IsHalf net false top
  halved_top = is_top net step gap H.spaced

  pub halved_bottom : IsHalf net true bottom
  halved_bottom = is_bottom net step gap H.spaced

  pub starts : o + gap < 1024
  starts = bottom_starts net step gap H.spaced (inside_all H.lent H.inside) H.sizes.two

  -- no switch of the top is behind the part that it is lent
  pub top_below : (p : ℕ) → Below (span m step) (switches_of top p)
  top_below p = below_all top p (top_inside H.lent H.inside H.spaced H.sizes.two halved_top)

  pub for_pair : m ≡ 2 → Lent w o 1 e b bits l × Pairs (blocks_in w b) 1 gap 1
  for_pair h =
      to_pair H.lent H.inside H.spaced H.sizes.two e (lengths refl refl)
      (omega (arith, W_two m h))

  -- at any stage, whose calls kept the lengths
  module _ {b' l' : List ℕ} (k : Same b l b' l') where
    front : Room w (span m step) b'
    front = room_after H.sizes.top b' k.blocks

    behind : Room w gap b'
    behind = room_after H.sizes.bottom b' k.blocks

    pub top_fits : span m step * w ≤ length b'
    top_fits = fits front

    pub top_long : length (take (span m step * w) b') ≡ span m step * w
    top_long = front_long front

    pub bottom_fits : gap * w ≤ length b'
    bottom_fits = fits behind

    pub for_layer : {e' c : ℕ} → 2 < m → c ≤ down m → e' + c ≤ e + W m
        → Lent w o c e' b' bits l' × Pairs (blocks_in w b') step gap c
    for_layer {e' = e'} {c = c} more few h = to-layer H.lent H.inside H.spaced H.sizes.two e' k more c few h

    pub for_top : {e' : ℕ} → e' + W (up m) ≤ e + W m
        → (let part = take (span m step * w) b' in Lent w o (W (up m)) e' part bits l' × Inside (o + blocks_in w part) top)
    for_top {e' = e'} h = to_top H.lent H.inside H.spaced H.sizes.two e' k halved_top _ top_long h

    pub for_bottom : {e' : ℕ} → e' + W (down m) ≤ e + W m
        → (let part = take (length b' - gap * w) (drop (gap * w) b') in
        Lent w (o + gap) (W (down m)) e' part bits l' × Inside (o + gap + blocks_in w part) bottom)
    for_bottom {e' = e'} h = to_bottom H.lent H.inside H.spaced H.sizes.two e' k halved_bottom _ (behind_long behind) h

    -- a half kept its part's length, and so the whole's
    pub top_kept : (x : List ℕ) → length x ≡ length (take (span m step * w) b') → {l'' : List ℕ} → length l'' ≡ length l'
        → Same b' l' (x ++ drop (span m step * w) b') l''
    top_kept x long log = lengths (front_kept front x long) log

    pub bottom_kept : (y : List ℕ) → length y ≡ length (take (length b' - gap * w) (drop (gap * w) b'))
        → {l'' : List ℕ} → length l'' ≡ length l'
        → Same b' l' (put_mid (gap * w) (length b' - gap * w) b' y) l''
    bottom_kept y long log = lengths (behind_kept behind y long) log

    -- what ran on its part has run on the whole
    pub ran_top : {es : List Entry} {e' : ℕ} {l'' : List ℕ} (x : List ℕ) → length x ≡ length (take (span m step * w) b')
        → Below (span m step) es → Ran w bits es o e' (take (span m step * w) b') l' x l''
        → Ran w bits es o e' b' l' (x ++ drop (span m step * w) b') l''
    ran_top x long below r = top_ran H.lent H.inside H.spaced H.sizes.two halved_top front x long below r

    pub ran_bottom : {es : List Entry} {e' : ℕ} {l'' : List ℕ} (y : List ℕ)
        → Ran w bits es (o + gap) e' (take (length b' - gap * w) (drop (gap * w) b')) l' y l''
        → Ran w bits (shifted gap es) o e' b' l' (put_mid (gap * w) (length b' - gap * w) b' y) l''
    ran_bottom y r = bottom_ran H.lent H.inside H.spaced H.sizes.two halved_bottom behind y r
