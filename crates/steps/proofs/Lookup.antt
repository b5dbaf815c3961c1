-- Within a network there is only one network that has a given start and size (01, 'Running a log').
-- Assumes nothing.
use mathlib.Core.Path.{◌≡◌, sym, ap, ◌∙◌}
use mathlib.Core.Logic.{◌⊎◌, inl, inr}
use mathlib.Core.Bool.{Bool, true, false, false≢true}
use mathlib.Core.List.Memᴰ
use mathlib.Core.List.{List, ◌++◌}
use Prim.Native.Nat.{ℕ, ◌+◌, ◌-◌, ◌≤◌, ◌<◌}
use native.Mathlib.Omega.{arith}
use Rattle.counts.specs.Counts.{up}
use Rattle.network.specs.Wiring.{Wiring, Lawful, Side}
use Rattle.network.specs.Network.{Network, split, network, switch_count, down}
use Rattle.network.proofs.Shape.{Sized, none, some, sized}
use Rattle.steps.specs.State.{Subnetwork}
use Rattle.steps.specs.Run.{subnetworks, OneOf, Single}
use Rattle.steps.proofs.Places.{Unlike, size_of, half_smaller, sides_unlike, half_unlike, real}

-- each network of Ms is one of Ns
unfoldable pub Held : List Subnetwork → List Subnetwork → Type 0
Held Ms Ns = (N : Subnetwork) → OneOf Ms N → OneOf Ns N

-- N starts at one of m places and has at most m
record Within (m : ℕ) (place : ℕ → ℕ) (N : Subnetwork) : Type 0 where
  at : ℕ
  at_below : at < m
  starts : N.place 0 ≡ place at
  small : N.size ≤ m

module _ (w : Wiring) (L : Lawful w) where
  -- the places of a half of a network, and the networks within it
  abbrev pub half_at : ℕ → (ℕ → ℕ) → Bool → ℕ → ℕ
  half_at m place t i = place (w.enc (up m) (i, t))

  abbrev pub in_top : ℕ → Network → (ℕ → ℕ) → ℕ → List Subnetwork
  in_top m top place bit = subnetworks w top (half_at m place false) (bit + (up m - 1))

  abbrev in_bottom : ℕ → Network → Network → (ℕ → ℕ) → ℕ → List Subnetwork
  in_bottom m top bottom place bit = subnetworks w bottom (half_at m place true) (bit + ((up m - 1) + switch_count top))

  -- a network within a network is the whole, or within its top, or within its bottom
  data Where (m : ℕ) (top bottom : Network) (place : ℕ → ℕ) (bit : ℕ) (N : Subnetwork) : Type 0 where
    whole : N ≡ record { place = place; size = m; bit = bit } → Where m top bottom place bit N
    above : OneOf (in_top m top place bit) N → Where m top bottom place bit N
    below : OneOf (in_bottom m top bottom place bit) N → Where m top bottom place bit N

  find : (m : ℕ) (top bottom : Network) (place : ℕ → ℕ) (bit : ℕ) (N : Subnetwork)
      → OneOf (subnetworks w (split m top bottom) place bit) N → Where m top bottom place bit N
  unfolding subnetworks
  find m top bottom place bit N mem = go (Memᴰ.cases_cons mem)
    where
      in_half : OneOf (in_top m top place bit) N ⊎ OneOf (in_bottom m top bottom place bit) N → Where m top bottom place bit N
      in_half (inl a) = above a
      in_half (inr a) = below a

      go :
          (N ≡ record { place = place; size = m; bit = bit })
          ⊎ OneOf (in_top m top place bit ++ in_bottom m top bottom place bit) N
          → Where m top bottom place bit N
      go (inl e) = whole e
      go (inr r) = in_half (Memᴰ.append_cases (in_top m top place bit) r)

  wider : (m : ℕ) (place : ℕ → ℕ) (N : Subnetwork) (t : Bool) → 2 ≤ m
      → Within (size_of m t) (half_at m place t) N → Within m place N
  wider m place N t two h =
      record {
        at = w.enc (up m) (h.at, t);
        at_below = real w L m t h.at h.at_below;
        starts = h.starts;
        small = omega (arith, half_smaller m t two, h.small);
      }

  within : {m : ℕ} {net : Network} (place : ℕ → ℕ) (bit : ℕ) (N : Subnetwork) → Sized m net
      → OneOf (subnetworks w net place bit) N → Within m place N
  unfolding subnetworks
  within place bit N (none h) mem = absurd (Memᴰ.not-nil mem)
  within {m} place bit N (some {top = top} {bottom = bottom} two t b) mem =
      go (find m top bottom place bit N mem) (within _ _ N t) (within _ _ N b)
    where
      go : Where m top bottom place bit N
          → (OneOf (in_top m top place bit) N → Within (up m) (half_at m place false) N)
          → (OneOf (in_bottom m top bottom place bit) N → Within (down m) (half_at m place true) N)
          → Within m place N
      go (whole e) ft fb =
          record {
            at = 0;
            at_below = omega arith;
            starts = ap (λ (M : Subnetwork). M.place 0) e;
            small = omega (arith, ap (λ (M : Subnetwork). M.size) e);
          }
      go (above a) ft fb = wider m place N false two (ft a)
      go (below a) ft fb = wider m place N true two (fb a)

  -- two networks in different halves start at different places
  apart : (m : ℕ) (place : ℕ → ℕ) → Unlike m place → (M N : Subnetwork) → Within (up m) (half_at m place false) M
      → Within (down m) (half_at m place true) N → M.place 0 ≡ N.place 0 → ⊥
  apart m place U M N a b e =
      false≢true
      (ap (λ (p : Side). p.1)
      (sides_unlike w L m place U false true a.at b.at a.at_below b.at_below (sym a.starts ∙ e ∙ b.starts)))

  -- 01: there is only one network that has a start and a size
  pub only_of : {m : ℕ} {net : Network} (place : ℕ → ℕ) (bit : ℕ) → Sized m net → Unlike m place → (M N : Subnetwork)
      → OneOf (subnetworks w net place bit) M
      → OneOf (subnetworks w net place bit) N
      → M.place 0 ≡ N.place 0
      → M.size ≡ N.size
      → M ≡ N
  unfolding subnetworks
  only_of place bit (none h) U M N a b e z = absurd (Memᴰ.not-nil a)
  only_of {m} place bit (some {top = top} {bottom = bottom} two t b) U M N mm mn e z =
      go (find m top bottom place bit M mm) (find m top bottom place bit N mn)
      (λ a c. only_of _ _ t (half_unlike w L m place U false) M N a c e z)
      (λ a c. only_of _ _ b (half_unlike w L m place U true) M N a c e z)
    where
      of_top : (K : Subnetwork) → OneOf (in_top m top place bit) K → Within (up m) (half_at m place false) K
      of_top K = within _ _ K t

      of_bottom : (K : Subnetwork) → OneOf (in_bottom m top bottom place bit) K → Within (down m) (half_at m place true) K
      of_bottom K = within _ _ K b

      size_is : (K : Subnetwork) → K ≡ record { place = place; size = m; bit = bit } → K.size ≡ m
      size_is K q = ap (λ (J : Subnetwork). J.size) q

      go : Where m top bottom place bit M → Where m top bottom place bit N
          → (OneOf (in_top m top place bit) M → OneOf (in_top m top place bit) N → M ≡ N)
          → (OneOf (in_bottom m top bottom place bit) M → OneOf (in_bottom m top bottom place bit) N → M ≡ N)
          → M ≡ N
      go (whole p) (whole q) ft fb = p ∙ sym q
      go (whole p) (above q) ft fb = absurd (omega (arith, (of_top N q).small, size_is M p))
      go (whole p) (below q) ft fb = absurd (omega (arith, (of_bottom N q).small, size_is M p))
      go (above p) (whole q) ft fb = absurd (omega (arith, (of_top M p).small, size_is N q))
      go (below p) (whole q) ft fb = absurd (omega (arith, (of_bottom M p).small, size_is N q))
      go (above p) (above q) ft fb = ft p q
      go (below p) (below q) ft fb = fb p q
      go (above p) (below q) ft fb = absurd (apart m place U M N (of_top M p) (of_bottom N q) e)
      go (below p) (above q) ft fb = absurd (apart m place U N M (of_top N q) (of_bottom M p) (sym e))

  -- within the network of n places from 0
  pub only_one : (n : ℕ) → Single (subnetworks w (network n) (λ i. i) 0)
  unfolding Single Unlike
  only_one n = only_of (λ i. i) 0 (sized n) (λ i j _ _ e. e)
