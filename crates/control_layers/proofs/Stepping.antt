-- From what the sweeps left to the step of the definition.
-- Assumes nothing.
use mathlib.Core.Path.{◌≡◌, ◌∙◌}
use mathlib.Core.Bool.{Bool, false}
use mathlib.Core.List.{List}
use Prim.Native.Nat.{ℕ, ◌+◌, ◌-◌, ◌/◌, ◌%◌, ◌<◌}
use lib.Dec.{eqb}
use lib.ListN.{get_or}
use Rattle.counts.specs.Counts.{up}
use Rattle.network.specs.Network.{down}
use Rattle.network.proofs.Places.{lies_both, lies_below}
use Rattle.steps.specs.Sweeps.{each, act}
use Rattle.steps.specs.State.{State, output_bit}
use Rattle.steps.specs.Steps.{step4, step5, step6}
use Rattle.wirings.specs.declared.Net.{Net}
use Rattle.wirings.specs.Nets.{wiring_of, place_of, side_of}
use Rattle.wirings.proofs.Halves.{lawful}
use Rattle.control_sweeps.specs.Tables.{Within, Parted, Joined}
use Rattle.control_sweeps.proofs.Bounds.{act_within}
use Rattle.control_walk.specs.declared.Walk.{Walk}
use Rattle.control_walk.specs.Walks.{state, subnetwork_of}
use Rattle.control_walk.proofs.Going.{onward}
use Rattle.control_layers.specs.Switches.{Switched}

-- the output switches move the values of the network's own places alone
pub outputs_within : (net : Net) (b : ℕ) (bits : List ℕ) (n : ℕ) (xs : List ℕ) → Within (place_of net) net.size b xs
    → Within (place_of net) net.size b (act (λ p. place_of net (side_of net p)) bits n (down net.size) xs)
outputs_within net b bits n xs h = act_within (place_of net) net.size b (side_of net) bits n (down net.size) xs real h
  where
    real : (i : ℕ) (t : Bool) → i < down net.size → side_of net (i, t) < net.size
    real i t l = lies_below (lawful net.topology) net.size (i, t) (lies_both net.size (i, t) l)

module _ (net : Net) (bit : ℕ) (vs ts ms bs : List ℕ) (w : Walk) where
  abbrev switches : List ℕ → ℕ → ℕ → List ℕ → List ℕ
  switches bits b n xs = act (λ p. place_of net (side_of net p)) bits b n xs

  pub step4_is : (r : Walk) (n : ℕ) (vs' ts' ms' : List ℕ) → vs' ≡ switches bs bit (up net.size - 1) vs
      → ts' ≡ switches bs bit (up net.size - 1) ts → ms' ≡ each (λ i. i) (up net.size) (λ i x. 0) ms → r ≡ onward n w
      → state vs' ts' ms' bs r ≡ step4 (wiring_of net.topology) (subnetwork_of net bit) (state vs ts ms bs w)
  unfolding step4
  step4_is r n vs' ts' ms' ev et em er = rw (er, ev, et, em)

  pub step5_is : (r : Walk) (n : ℕ) (vs' ts' : List ℕ) → Parted net (up net.size) vs ts vs' ts' → r ≡ onward n w
      → state vs' ts' ms bs r ≡ step5 (wiring_of net.topology) (subnetwork_of net bit) (state vs ts ms bs w)
  unfolding step5
  step5_is r n vs' ts' S er = rw (er, S.values_are, S.trails_are)

  pub step6_is : (r : Walk) (n b : ℕ) (vs' ts' bs' vs'' ts'' : List ℕ) → Switched net b vs ts bs vs' ts' bs'
      → Joined net (up net.size) vs' ts' vs'' ts'' → r ≡ onward n w → b ≡ output_bit (subnetwork_of net bit)
      → state vs'' ts'' ms bs' r ≡ step6 (wiring_of net.topology) (subnetwork_of net bit) (state vs ts ms bs w)
  unfolding step6
  step6_is r n b vs' ts' bs' vs'' ts'' S J er eb =
      rw (er, J.values_are, J.trails_are)
      ((λ i. after bs' (S.values_are i) (S.trails_are i))
      ∙ (λ i. after (S.bits_are i) (switches (S.bits_are i) b (down net.size) vs) (switches (S.bits_are i) b (down net.size) ts))
      ∙ (λ i. last (eb i)))
    where
      after : List ℕ → List ℕ → List ℕ → State
      after bits values trails =
          record {
            values =
                each (place_of net) net.size (λ i v. (wiring_of net.topology).enc (up net.size)
                (v, eqb (get_or trails (place_of net i) 0 % 2) 1)) values;
            trails = each (place_of net) net.size (λ i t. t / 2) trails;
            marks = ms;
            bits = bits;
            f = w.f;
            c = w.c;
            g = w.g;
            s = w.s;
          }

      last : ℕ → State
      last n =
          let bits : List ℕ = each (λ i. n + i) (down net.size) (λ i x. get_or ts (place_of net (side_of net (i, false))) 0 % 2) bs in
          after bits (switches bits n (down net.size) vs) (switches bits n (down net.size) ts)
